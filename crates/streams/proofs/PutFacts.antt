-- A text is put in pieces.
use Rattle.std.proofs.Common.{◌≡◌, ℕ, ◌+◌, ◌-◌, ◌≤◌, List, [], ◌++◌, take, drop, IsTrue, refl, sym, ◌∙◌, ap, subst, arith, append_assoc, append-nil}
use Rattle.std.proofs.Math.Seq.{take-add}
use Rattle.std.proofs.lemmas.List.{take-append-drop}
use Rattle.conda_host.specs.declared.outside.Role.{Role}
use Rattle.streams.specs.Seen.{Seen, ShowsText, ShowsFront, Puts, PutsFront}

pub puts_nothing : (v : Seen) (r : Role) → Puts v v r []
puts_nothing v r = record { text = λ told is. sym (append-nil (v.text r)); others = λ q d. refl; rest = refl }

-- what is seen with other texts
abbrev with_text : (Role → List ℕ) → Seen → Seen
with_text text v = record v { text = text }

pub puts_trans : {u v w : Seen} {r : Role} {xs ys : List ℕ} → Puts u v r xs → Puts v w r ys → Puts u w r (xs ++ ys)
puts_trans {u = u} {v = v} {w = w} {r = r} {xs = xs} {ys = ys} p q = record {
  text = λ told is.
      let told_v : IsTrue v.tells = subst IsTrue (sym (ap (λ s. s.tells) p.rest)) told in
      let is_v : IsTrue (v.sinks r) = subst IsTrue (sym (ap (λ s. s.sinks r) p.rest)) is in
      q.text told_v is_v ∙ ap (λ t. t ++ ys) (p.text told is) ∙ append_assoc (u.text r) xs ys;
  others = λ x d. q.others x d ∙ p.others x d;
  rest = q.rest ∙ ap (with_text w.text) p.rest;
}

pub puts_front : {u v w : Seen} {r : Role} {xs ys : List ℕ} → Puts u v r xs → PutsFront v w r ys → PutsFront u w r (xs ++ ys)
puts_front {xs = xs} p q = record {
  front = xs ++ q.front;
  is_front = record { rest = q.is_front.rest; same = ap (λ t. xs ++ t) q.is_front.same ∙ sym (append_assoc xs q.front q.is_front.rest) };
  puts = puts_trans p q.puts;
}

pub front_and_more : {u v : Seen} {r : Role} {xs : List ℕ} (ys : List ℕ) → PutsFront u v r xs → PutsFront u v r (xs ++ ys)
front_and_more ys p = record {
  front = p.front;
  is_front = record { rest = p.is_front.rest ++ ys; same = ap (λ t. t ++ ys) p.is_front.same ∙ append_assoc p.front p.is_front.rest ys };
  puts = p.puts;
}

pub puts_more : (u v w : Seen) (r : Role) (bytes : List ℕ) (at end : ℕ) → at ≤ end → Puts v w r (take (end - at) (drop at bytes)) → Puts u v r (take at bytes) → Puts u w r (take end bytes)
puts_more u v w r bytes at end le p h =
    let all : at + (end - at) ≡ end = omega arith in
    subst (λ t. Puts u w r t) (sym (take-add at (end - at) bytes) ∙ ap (λ n. take n bytes) all) (puts_trans h p)

pub puts_part : (u v w : Seen) (r : Role) (bytes : List ℕ) (at : ℕ) → w ≡ v → Puts u v r (take at bytes) → PutsFront u w r bytes
puts_part u v w r bytes at same h = record {
  front = take at bytes;
  is_front = record { rest = drop at bytes; same = sym (take-append-drop at bytes) };
  puts = subst (λ x. Puts u x r (take at bytes)) (sym same) h;
}

-- what is shown once bytes were put
pub puts_shown : {u v : Seen} {r : Role} {text bytes : List ℕ} → Puts u v r bytes → ShowsText u r text → ShowsText v r (text ++ bytes)
puts_shown {u = u} {v = v} {r = r} {bytes = bytes} p h = record {
  same = λ told is.
      let told_u : IsTrue u.tells = subst IsTrue (ap (λ s. s.tells) p.rest) told in
      let is_u : IsTrue (u.sinks r) = subst IsTrue (ap (λ s. s.sinks r) p.rest) is in
      p.text told_u is_u ∙ ap (λ t. t ++ bytes) (h.same told_u is_u);
}

pub front_shown : {u v : Seen} {r : Role} {text bytes : List ℕ} → PutsFront u v r bytes → ShowsText u r text → ShowsFront v r (text ++ bytes)
front_shown {text = text} p h = record {
  front = λ told is. record {
    rest = p.is_front.rest;
    same = ap (λ t. text ++ t) p.is_front.same ∙ sym (append_assoc text p.front p.is_front.rest)
        ∙ ap (λ t. t ++ p.is_front.rest) (sym ((puts_shown p.puts h).same told is));
  };
}

pub shown_front : {v : Seen} {r : Role} {text : List ℕ} → ShowsText v r text → ShowsFront v r text
shown_front {v = v} {r = r} h = record {
  front = λ told is. record { rest = []; same = sym (h.same told is) ∙ sym (append-nil (v.text r)) };
}
