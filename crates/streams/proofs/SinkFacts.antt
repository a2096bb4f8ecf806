-- Texts on their way into files.
use Rattle.std.proofs.Common.{◌≡◌, ℕ, ◌+◌, ◌-◌, ◌≤◌, List, [], ◌++◌, take, drop, length, IsTrue, refl, sym, ◌∙◌, ap, subst, arith, append_assoc, append-nil, length-drop}
use Rattle.std.proofs.lemmas.Grind.{common_steps}
use Rattle.std.proofs.lemmas.List.{take-append-drop, drop-drop}
use Rattle.conda_host.specs.declared.outside.Role.{Role}
use Rattle.conda_host.specs.State.{HostState, IsWriting, Writes}
use Rattle.conda_host.proofs.Steps.{writing_trans}
use Rattle.streams.specs.Sink.{SinkView, Adds, IsMade, text_in}

-- adding after adding
pub adds_trans : {a b c : HostState} {u v w : SinkView} {xs ys : List ℕ} → Adds a b u v xs → Adds b c v w ys → Adds a c u w (xs ++ ys)
adds_trans {a = a} {b = b} {c = c} {u = u} {v = v} {w = w} {xs = xs} {ys = ys} p q =
    let rest : IsWriting b c u.role = subst (IsWriting b c) p.role q.rest in
    record {
      text = λ t. q.text (subst IsTrue (sym p.rest.later.tells) t) ∙ ap (λ x. x ++ ys) (p.text t) ∙ append_assoc (text_in a u) xs ys;
      role = q.role ∙ p.role;
      made = λ m. subst (IsMade c) p.role (q.made (subst (IsMade b) (sym p.role) (p.made m)));
      rest = writing_trans p.rest rest;
    }

rest_of : (at : ℕ) (xs : List ℕ) → take (length xs - at) (drop at xs) ≡ drop at xs
rest_of at xs = grind (arith, common_steps)

drop_more : (at n : ℕ) (xs : List ℕ) → take n (drop at xs) ++ drop (at + n) xs ≡ drop at xs
drop_more at n xs = ap (λ ys. take n (drop at xs) ++ ys) (sym (drop-drop n at xs)) ∙ take-append-drop n (drop at xs)

within : (at n : ℕ) (xs : List ℕ) → at ≤ length xs → n ≤ length (take (length xs - at) (drop at xs)) → at + n ≤ length xs
within at n xs h bound = omega (arith, bound, ap length (rest_of at xs), length-drop at xs)

-- one call of the host wrote a part of what is pending
wrote : {b c : HostState} (role : Role) (bytes : List ℕ) (at n : ℕ) → Writes b c role (take (length bytes - at) (drop at bytes)) n → IsWriting b c role
    → Adds b c (record { role = role; pending = drop at bytes; room = 0 }) (record { role = role; pending = drop (at + n) bytes; room = 0 }) []
wrote {b = b} {c = c} role bytes at n p rest = record {
  text = λ t.
      ap (λ x. x ++ drop (at + n) bytes) (p.written t ∙ ap (λ x. (b.role role).written ++ take n x) (rest_of at bytes))
      ∙ append_assoc (b.role role).written (take n (drop at bytes)) (drop (at + n) bytes)
      ∙ ap (λ x. (b.role role).written ++ x) (drop_more at n bytes)
      ∙ sym (append-nil ((b.role role).written ++ drop at bytes));
  role = refl;
  made = λ m. record {
    created = rest.created;
    file = λ t. ap c.file rest.name ∙ p.file (subst IsTrue rest.later.tells t);
  };
  rest = rest;
}

pub record Drains (old new : HostState) (role : Role) (bytes : List ℕ) (from to : ℕ) : Type 0 where
  pub within : to ≤ length bytes
  pub adds : Adds old new (record { role = role; pending = drop from bytes; room = 0 }) (record { role = role; pending = drop to bytes; room = 0 }) []

pub drains_more : {a b c : HostState} (role : Role) (bytes : List ℕ) (from at n : ℕ) → Drains a b role bytes from at → Writes b c role (take (length bytes - at) (drop at bytes)) n → IsWriting b c role
    → Drains a c role bytes from (at + n)
drains_more role bytes from at n d p rest = record { within = within at n bytes d.within p.bound; adds = adds_trans d.adds (wrote role bytes at n p rest) }
