-- A segment's words, and the set that they are seen as.
use Rattle.std.proofs.Common.{◌≡◌, ℕ, ◌+◌, ◌/◌, ◌<◌, ◌↔◌, Bool, true, false, List, length, set, eqb, sym, ap, subst, ◌∙◌, arith}
use Rattle.bloom_sig.specs.Segments.{is_in_set, union, Meets}
use Rattle.bloom_sig.specs.Words.{bit_of_words, marks_of, AreWords, AreJoined, IsSet, ShareBit}
use Rattle.bloom_sig.proofs.WordLemmas.{length-marks, mark_at, marks_set, set_words, marks_joined, joined_words, meets_of_words}

pub below_bound : (bound : ℕ) (words : List ℕ) (now : List Bool) (n : ℕ) → marks_of bound words ≡ now → n < length now → n < bound
below_bound bound words now n view within =
    let same = length-marks bound words in
    let len = ap length view in
    omega arith

pub word_within : (bound : ℕ) (words given : List ℕ) (now : List Bool) (n : ℕ) → AreWords bound words → marks_of bound words ≡ now → given ≡ words → n < length now → n / 64 < length given
word_within bound words given now n are view same within =
    let below = below_bound bound words now n view within in
    let len = ap length same in
    omega (arith, are.count)

pub has_by_word : (bound : ℕ) (words given : List ℕ) (now : List Bool) (n : ℕ) → marks_of bound words ≡ now → given ≡ words → n < length now → eqb (bit_of_words given n) 1 ≡ is_in_set now n
has_by_word bound words given now n view same within =
    let below = below_bound bound words now n view within in
    ap (λ ws. eqb (bit_of_words ws n) 1) same ∙ sym (mark_at bound words n false below) ∙ ap (λ ms. is_in_set ms n) view

pub insert_words : (bound : ℕ) (words given new : List ℕ) (now : List Bool) (n : ℕ) → AreWords bound words → marks_of bound words ≡ now → given ≡ words → n < length now → IsSet n given new → AreWords bound new
insert_words bound words given new now n are view same within is =
    set_words bound n words new (below_bound bound words now n view within) (subst (λ ws. IsSet n ws new) same is) are

pub insert_marks : (bound : ℕ) (words given new : List ℕ) (now : List Bool) (n : ℕ) → marks_of bound words ≡ now → given ≡ words → n < length now → IsSet n given new → marks_of bound new ≡ set now n true
insert_marks bound words given new now n view same within is =
    marks_set bound n words new (below_bound bound words now n view within) (subst (λ ws. IsSet n ws new) same is) ∙
    ap (λ ms. set ms n true) view

-- segments of one bound have as many words
same_bound : (bound other : ℕ) (words others : List ℕ) (now theirs : List Bool) → marks_of bound words ≡ now → marks_of other others ≡ theirs → length now ≡ length theirs → bound ≡ other
same_bound bound other words others now theirs view their_view same =
    sym (length-marks bound words) ∙ ap length view ∙ same ∙ sym (ap length their_view) ∙ length-marks other others

pub same_count : (bound other : ℕ) (words others given their_given : List ℕ) (now theirs : List Bool) → AreWords bound words → AreWords other others → marks_of bound words ≡ now → marks_of other others ≡ theirs → given ≡ words → their_given ≡ others → length now ≡ length theirs → length given ≡ length their_given
same_count bound other words others given their_given now theirs are ours view their_view same their_same lengths =
    ap length same ∙ are.count ∙ ap (λ n. (n + 63) / 64) (same_bound bound other words others now theirs view their_view lengths) ∙ sym ours.count ∙ sym (ap length their_same)

joined_from : (words others given their_given new : List ℕ) → given ≡ words → their_given ≡ others → AreJoined 0 (length given) given their_given new → AreJoined 0 (length words) words others new
joined_from words others given their_given new same their_same is =
    subst (λ ws. AreJoined 0 (length ws) ws others new) same (subst (λ os. AreJoined 0 (length given) given os new) their_same is)

pub join_words_are : (bound other : ℕ) (words others given their_given new : List ℕ) (now theirs : List Bool) → AreWords bound words → AreWords other others → marks_of bound words ≡ now → marks_of other others ≡ theirs → given ≡ words → their_given ≡ others → length now ≡ length theirs → AreJoined 0 (length given) given their_given new → AreWords bound new
join_words_are bound other words others given their_given new now theirs are ours view their_view same their_same lengths is =
    let one = same_bound bound other words others now theirs view their_view lengths in
    joined_words bound words others new are (subst (λ n. AreWords n others) (sym one) ours) (joined_from words others given their_given new same their_same is)

pub join_marks : (bound other : ℕ) (words others given their_given new : List ℕ) (now theirs : List Bool) → AreWords bound words → marks_of bound words ≡ now → marks_of other others ≡ theirs → given ≡ words → their_given ≡ others → length now ≡ length theirs → AreJoined 0 (length given) given their_given new → marks_of bound new ≡ union now theirs
join_marks bound other words others given their_given new now theirs are view their_view same their_same lengths is =
    let one = same_bound bound other words others now theirs view their_view lengths in
    marks_joined bound words others new are (joined_from words others given their_given new same their_same is) ∙
    ap (λ ms. union ms (marks_of bound others)) view ∙ ap (union now) (ap (λ n. marks_of n others) one ∙ their_view)

pub meets_by_words : (bound other : ℕ) (words others given their_given : List ℕ) (now theirs : List Bool) → AreWords bound words → marks_of bound words ≡ now → marks_of other others ≡ theirs → given ≡ words → their_given ≡ others → length now ≡ length theirs → ShareBit given their_given ↔ Meets now theirs
meets_by_words bound other words others given their_given now theirs are view their_view same their_same lengths =
    let one = same_bound bound other words others now theirs view their_view lengths in
    let both = meets_of_words bound words others are in
    subst (λ ws. ShareBit ws their_given ↔ Meets now theirs) (sym same)
    (subst (λ os. ShareBit words os ↔ Meets now theirs) (sym their_same)
    (subst (λ ms. ShareBit words others ↔ Meets ms theirs) view
    (subst (λ ms. ShareBit words others ↔ Meets (marks_of bound words) ms) (ap (λ n. marks_of n others) one ∙ their_view) both)))
