-- A source is copied into a sink, piece by piece.
use Rattle.std.proofs.Common.{◌≡◌, ℕ, ◌<◌, List, [], ◌++◌, take, length, IsTrue, sym, ◌∙◌, ap, subst, append_assoc, append-nil}
use Rattle.conda_host.specs.declared.outside.Role.{Role}
use Rattle.streams.specs.Seen.{Seen, IsLeft, ShowsText, Takes, Puts}

-- of these bytes some are in the text, and the rest is ahead
pub record HasCopied (streams : Seen) (role : Role) (bytes text : List ℕ) : Type 0 where
  pub done : List ℕ
  pub rest : List ℕ
  pub parts : bytes ≡ done ++ rest
  pub ahead : IsLeft streams rest
  pub shows : ShowsText streams role (text ++ done)

pub copied_more : (v w x : Seen) (r : Role) (bytes text before after : List ℕ) (n : ℕ) → HasCopied v r bytes text → Takes v w before after n → Puts w x r (take n after) → HasCopied x r bytes text
copied_more v w x r bytes text before after n c p q =
    let told : IsTrue v.tells = c.ahead.told in
    let told_w : IsTrue w.tells = subst IsTrue (sym (ap (λ s. s.tells) p.rest)) told in
    let told_x : IsTrue x.tells = subst IsTrue (sym (ap (λ s. s.tells) q.rest)) told_w in
    record {
      done = c.done ++ take n after;
      rest = w.left;
      parts = c.parts ∙ ap (λ ys. c.done ++ ys) (sym c.ahead.same ∙ p.bytes told) ∙ sym (append_assoc c.done (take n after) w.left);
      ahead = record { told = told_x; same = ap (λ s. s.left) q.rest };
      shows = record {
        same = λ t is.
            let is_w : IsTrue (w.sinks r) = subst IsTrue (ap (λ s. s.sinks r) q.rest) is in
            let is_v : IsTrue (v.sinks r) = subst IsTrue (ap (λ s. s.sinks r) p.rest) is_w in
            q.text told_w is_w ∙ ap (λ ys. ys ++ take n after) (ap (λ s. s.text r) p.rest ∙ c.shows.same told is_v)
            ∙ append_assoc text c.done (take n after);
      };
    }

pub copied_all : (v w : Seen) (r : Role) (bytes text before after : List ℕ) (n : ℕ) → HasCopied v r bytes text → 0 < length before → n ≡ 0 → Takes v w before after n → ShowsText w r (text ++ bytes)
copied_all v w r bytes text before after n c some zero p =
    let none : c.rest ≡ [] = sym c.ahead.same ∙ (p.ended c.ahead.told some).0 zero in
    let all : bytes ≡ c.done = c.parts ∙ ap (λ ys. c.done ++ ys) none ∙ append-nil c.done in
    record {
      same = λ t is.
          let is_v : IsTrue (v.sinks r) = subst IsTrue (ap (λ s. s.sinks r) p.rest) is in
          ap (λ s. s.text r) p.rest ∙ c.shows.same c.ahead.told is_v ∙ ap (λ ys. text ++ ys) (sym all);
    }
