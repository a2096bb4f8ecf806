-- Lines that are held have slots of their own.
use Rattle.std.proofs.Common.{◌≡◌, ◌≢◌, ℕ, zero, suc, ◌%◌, ◌<◌, ◌≤◌, ⊎_elim, eqb, true, false, List, [], ◌∷◌, Some, length, get_or, map, set, take, sym, ap, ◌∙◌, refl, arith}
use Rattle.std.specs.Option.{option_map}
use Rattle.std.proofs.lemmas.Bool.{cases_eq, eq-eqb}
use Rattle.std.proofs.lemmas.List.{length-map, length-set, same_lists, get_or-set_other, get_or-set_same}
use Rattle.std.proofs.lemmas.List.{get_or-map as get_or-map_within}
use Rattle.conda_base.specs.declared.Line.{Line}
use Rattle.conda_base.specs.declared.Mesi.{Mesi}
use Rattle.set_assoc.specs.Entries.{lookup, AreEntries}
use Rattle.set_assoc.specs.Places.{ArePlacedSets, place_of_line}
use Rattle.set_assoc.specs.declared.placed.Placed.{Placed}
use Rattle.set_assoc.specs.Seen.{seen_list, seen_through}
use Rattle.set_assoc.specs.SetLists.{SetLists, set_of, list_of, with_list, find, IsSets}
use Rattle.cpu_cache.specs.Slots.{content_in, slot_of}
use Rattle.set_assoc.proofs.FindFacts.{IsSets-changed, list_of-other, list_of-same, set_below, apart_by_test}
use Rattle.set_assoc.proofs.EntryLemmas.{other_line}

-- the place of a held line is below eight
pub place_below : (lines : SetLists (Placed Mesi)) (l : Line) (kept : Placed Mesi) → ArePlacedSets lines → find lines l ≡ Some kept → kept.place < 8
place_below lines l kept are there =
    (are.places (set_of lines l)).below l kept.place (ap (λ o. option_map (λ k. k.place) o) there)

-- no two lines have one slot
pub slots_apart : (lines : SetLists (Placed Mesi)) (a b : Line) (x y : Placed Mesi) → ArePlacedSets lines → find lines a ≡ Some x → find lines b ≡ Some y → slot_of (length lines.lists) a x.place ≡ slot_of (length lines.lists) b y.place → a.0 ≡ b.0
slots_apart lines a b x y are first second same =
    let small = place_below lines a x are first in
    let little = place_below lines b y are second in
    let sets : set_of lines b ≡ set_of lines a = omega arith in
    let places : y.place ≡ x.place = omega arith in
    let mine : place_of_line a (list_of lines a) ≡ Some x.place = ap (λ o. option_map (λ k. k.place) o) first in
    let his : place_of_line b (list_of lines a) ≡ Some x.place =
    ap (λ k. place_of_line b (get_or lines.lists k [])) (sym sets) ∙ ap (λ o. option_map (λ k. k.place) o) second ∙ ap (λ p. Some p) places in
    (are.places (set_of lines a)).apart a b x.place mine his

module _ {A B : Type 0} where
  -- two functions that agree on the lines of a list
  pub seen_list_agrees : (f g : Line → A → B) (n k : ℕ) (entries : List (Line × A)) → AreEntries n k entries → ((a : Line) (value : A) → a.0 % n ≡ k → lookup a entries ≡ Some value → f a value ≡ g a value) → seen_list f entries ≡ seen_list g entries
  seen_list_agrees f g n k [] are agree = refl
  seen_list_agrees f g n k (entry ∷ rest) are agree =
      let first : lookup entry.0 (entry ∷ rest) ≡ Some entry.1 = rw (eq-eqb entry.0.0 entry.0.0 refl) refl in
      let here : f entry.0 entry.1 ≡ g entry.0 entry.1 = agree entry.0 entry.1 are.0 first in
      ap (λ value. (entry.0, value) ∷ seen_list f rest) here ∙
      ap (λ es. (entry.0, g entry.0 entry.1) ∷ es)
      (seen_list_agrees f g n k rest are.2
      (λ a value placed there. agree a value placed (rw (other_line a entry rest value are.1 there) there)))

  pub seen_through_agrees : (f g : Line → A → B) (sets : SetLists A) → IsSets sets → ((a : Line) (value : A) → find sets a ≡ Some value → f a value ≡ g a value) → seen_through f sets ≡ seen_through g sets
  seen_through_agrees f g sets are agree =
      let n : ℕ = length sets.lists in
      ap (λ lists. record { ways = sets.ways; lists = lists })
      (same_lists (map (seen_list f) sets.lists) (map (seen_list g) sets.lists)
      (length-map sets.lists (seen_list f) ∙ sym (length-map sets.lists (seen_list g)))
      (λ k d below.
      let inside : k < n = rw (length-map sets.lists (seen_list f)) at below in
      let one : seen_list f (get_or sets.lists k []) ≡ seen_list g (get_or sets.lists k []) =
      seen_list_agrees f g n k (get_or sets.lists k []) (are.entries k inside)
      (λ a value placed there. agree a value (ap (λ i. lookup a (get_or sets.lists i [])) placed ∙ there)) in
      get_or-map_within (seen_list f) sets.lists k [] d inside ∙ one ∙ sym (get_or-map_within (seen_list g) sets.lists k [] d inside)))

-- a line in front of a set, and the sets without it
pub record IsFront {T : Type 0} (lines : SetLists T) (l : Line) (kept : T) (rest : List (Line × T)) : Type 0 where
  pub entries : AreEntries (length lines.lists) (set_of lines l) ((l, kept) ∷ rest)
  pub short : length ((l, kept) ∷ rest) ≤ lines.ways

pub front_of : {T : Type 0} (lines : SetLists T) (l : Line) (kept : T) (rest : List (Line × T)) → IsSets lines → IsSets (with_list lines l ((l, kept) ∷ rest)) → IsFront lines l kept rest
front_of {T = T} lines l kept rest are now =
    let es : List (Line × T) = (l, kept) ∷ rest in
    let i : ℕ = set_of lines l in
    let inside : i < length lines.lists = set_below lines l are in
    let len : length (set lines.lists i es) ≡ length lines.lists = length-set lines.lists i es in
    let read : get_or (set lines.lists i es) i [] ≡ es = get_or-set_same lines.lists i es [] inside in
    let below : i < length (set lines.lists i es) = omega arith in
    let entries : AreEntries (length (set lines.lists i es)) i (get_or (set lines.lists i es) i []) = now.entries i below in
    let short : length (get_or (set lines.lists i es) i []) ≤ lines.ways = now.short i [] below in
    record {
      entries = rw (len, read) at entries;
      short = rw read at short;
    }

-- a line of the other lines is held beside the one in front
found_beside : {T : Type 0} (lines : SetLists T) (l a : Line) (kept value : T) (rest : List (Line × T)) → IsSets lines → IsFront lines l kept rest → find (with_list lines l rest) a ≡ Some value → (find (with_list lines l ((l, kept) ∷ rest)) a ≡ Some value) × (a.0 ≢ l.0)
found_beside {T = T} lines l a kept value rest are front there =
    ⊎_elim
    (λ (same : set_of lines a ≡ set_of lines l).
    let found : lookup a rest ≡ Some value = ap (λ e. lookup a e) (sym (list_of-same lines l a rest are same)) ∙ there in
    let off : eqb l.0 a.0 ≡ false = other_line a (l, kept) rest value front.entries.1 found in
    let now : lookup a ((l, kept) ∷ rest) ≡ Some value = rw off found in
    (ap (λ e. lookup a e) (list_of-same lines l a ((l, kept) ∷ rest) are same) ∙ now, λ equal. apart_by_test l.0 a.0 off (sym equal)))
    (λ (apart : set_of lines a ≢ set_of lines l). (
      ap (λ e. lookup a e) (list_of-other lines l a ((l, kept) ∷ rest) apart ∙ sym (list_of-other lines l a rest apart)) ∙ there,
      λ equal. apart (ap (λ n. n % length lines.lists) equal),
    ))
    (cases_eq (set_of lines a) (set_of lines l))

-- a write into the slot of the line in front is seen in that line alone
pub write_unseen : (n : ℕ) (slots : List (List ℕ)) (new : List ℕ) (lines : SetLists (Placed Mesi)) (l : Line) (kept : Placed Mesi) (rest : List (Line × Placed Mesi)) → IsSets lines → ArePlacedSets (with_list lines l ((l, kept) ∷ rest)) → seen_through (content_in n (length lines.lists) (set slots (slot_of (length lines.lists) l kept.place) new)) (with_list lines l rest) ≡ seen_through (content_in n (length lines.lists) slots) (with_list lines l rest)
write_unseen n slots new lines l kept rest are placed =
    let sets : ℕ = length lines.lists in
    let es : List (Line × Placed Mesi) = (l, kept) ∷ rest in
    let front = front_of lines l kept rest are placed.sets in
    let short = front.short in
    let others : IsSets (with_list lines l rest) = IsSets-changed lines l rest are front.entries.2 (omega arith) in
    let len : length (set lines.lists (set_of lines l) es) ≡ length lines.lists = length-set lines.lists (set_of lines l) es in
    let mine : find (with_list lines l es) l ≡ Some kept =
    ap (λ e. lookup l e) (list_of-same lines l l es are refl) ∙ (let yes : eqb l.0 l.0 ≡ true = eq-eqb l.0 l.0 refl in rw yes refl) in
    seen_through_agrees (content_in n sets (set slots (slot_of sets l kept.place) new)) (content_in n sets slots) (with_list lines l rest) others
    (λ a value there.
    let beside = found_beside lines l a kept value rest are front there in
    let apart : slot_of sets a value.place ≢ slot_of sets l kept.place =
    λ same. beside.1 (slots_apart (with_list lines l es) a l value kept placed beside.0 mine (rw len same)) in
    ap (λ bytes. record { state = value.value; bytes = take n bytes })
    (get_or-set_other slots (slot_of sets l kept.place) (slot_of sets a value.place) new [] apart))

-- a line that was added is found
take-front : {T : Type 0} (ways : ℕ) (l : Line) (kept : T) (entries : List (Line × T)) → 0 < ways → lookup l (take ways ((l, kept) ∷ entries)) ≡ Some kept
take-front zero l kept entries some = absurd (omega arith)
take-front (suc w) l kept entries some = let yes : eqb l.0 l.0 ≡ true = eq-eqb l.0 l.0 refl in rw yes refl

pub added_found : {T : Type 0} (lines now : SetLists T) (l : Line) (kept : T) → IsSets lines → now ≡ with_list lines l (take lines.ways ((l, kept) ∷ list_of lines l)) → find now l ≡ Some kept
added_found {T = T} lines now l kept are is =
    ap (λ (s : SetLists T). find s l) is ∙
    ap (λ e. lookup l e) (list_of-same lines l l (take lines.ways ((l, kept) ∷ list_of lines l)) are refl) ∙
    take-front lines.ways l kept (list_of lines l) are.some_ways

pub length-changed : {T : Type 0} (lines now : SetLists T) (l : Line) (entries : List (Line × T)) → now ≡ with_list lines l entries → length now.lists ≡ length lines.lists
length-changed {T = T} lines now l entries is = ap (λ (s : SetLists T). length s.lists) is ∙ length-set lines.lists (set_of lines l) entries
