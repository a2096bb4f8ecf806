-- The first rule that is broken.
use Rattle.std.proofs.Common.{◌≡◌, ℕ, Result, Err, ◌<◌, ◌≤◌, subst, arith, Bool, true, false, List, [], ◌∷◌, ◌++◌, length, Some, None, Option, refl, sym, ap, ◌∙◌}
use Rattle.std.specs.Prelude.{nat_lt}
use Rattle.std.proofs.lemmas.Bool.Decides.{nat_tests}
use Rattle.std.specs.List.{position}
use Rattle.std.specs.Option.{option_map}
use Rattle.elf_loader.specs.declared.header.Header.{Header}
use Rattle.elf_loader.specs.declared.segment.Segment.{Segment}
use Rattle.elf_loader.specs.declared.fault.ImageFault.{ImageFault}
use Rattle.elf_loader.specs.declared.fault.ImageFault.TheVariants.{Short, NotElf, NotClass32, NotLittle, BadVersion, NotExec, NotRiscv, BadFlags, BadHeaderSize, TooManySegments, TableOutside, Dynamic, BadSegment, SegmentOutside, Overlap, NoSegment, BadEntry, OutOfMemory}
use Rattle.elf_loader.specs.Header.{header_of, is_not_elf, is_not_class32, is_not_little, has_bad_version, is_not_exec, is_not_riscv, has_bad_flags, has_bad_size, has_too_many, is_table_outside}
use Rattle.elf_loader.proofs.SegmentFacts.{loadable}
use Rattle.elf_loader.specs.Segments.{segments_of, is_dynamic, IsLoadable, is_bad, is_outside, numbered, overlaps_earlier, has_no_live, is_bad_entry}
use Rattle.elf_loader.specs.Image.{ImageView}
use Rattle.elf_loader.specs.Refusal.{first_some, fault_when, rules, refusal}

-- rules that are broken among the first ones, or not
pub broken_before : (front back : List (Option ImageFault)) (f : ImageFault) → first_some front ≡ Some f → first_some (front ++ back) ≡ Some f
broken_before [] back f h = cc
broken_before (None ∷ front) back f h = broken_before front back f h
broken_before (Some g ∷ front) back f h = h

pub kept_before : (front back : List (Option ImageFault)) → first_some front ≡ None → first_some (front ++ back) ≡ first_some back
kept_before [] back h = refl
kept_before (None ∷ front) back h = kept_before front back h
kept_before (Some g ∷ front) back h = cc

pub first_kept : (rule : Option ImageFault) (rules : List (Option ImageFault)) → first_some (rule ∷ rules) ≡ None → rule ≡ None
first_kept None rules h = refl
first_kept (Some g) rules h = cc

pub rest_kept : (rule : Option ImageFault) (rules : List (Option ImageFault)) → first_some (rule ∷ rules) ≡ None → first_some rules ≡ None
rest_kept None rules h = h
rest_kept (Some g) rules h = cc

-- where a rule on segments is kept, no segment breaks it
pub option_map-None : (fault : ℕ → ImageFault) (place : Option ℕ) → option_map fault place ≡ None → place ≡ None
option_map-None fault None h = refl
option_map-None fault (Some k) h = cc

-- the rules, as they are judged one part after the other over a header and program headers
abbrev pub short_rules : ℕ → List (Option ImageFault)
short_rules file_bytes = fault_when (nat_lt file_bytes 52) Short ∷ []

abbrev pub identity_rules : Header → List (Option ImageFault)
identity_rules h =
    fault_when (is_not_elf h) NotElf ∷ fault_when (is_not_class32 h) NotClass32 ∷ fault_when (is_not_little h) NotLittle ∷ fault_when (has_bad_version h) BadVersion ∷ []

abbrev pub kind_rules : Header → List (Option ImageFault)
kind_rules h = fault_when (is_not_exec h) NotExec ∷ fault_when (is_not_riscv h) NotRiscv ∷ fault_when (has_bad_flags h) (BadFlags h.e_flags) ∷ []

abbrev pub table_rules : ℕ → Header → List (Option ImageFault)
table_rules file_bytes h =
    fault_when (has_bad_size h) BadHeaderSize ∷ fault_when (has_too_many h) (TooManySegments h.e_phnum) ∷ fault_when (is_table_outside file_bytes h) TableOutside ∷ []

abbrev pub segment_rules : ℕ → ℕ → ℕ → List Segment → List (Option ImageFault)
segment_rules file_bytes base size s =
    option_map Dynamic (position is_dynamic s)
    ∷ option_map BadSegment (position (is_bad file_bytes) s)
    ∷ option_map SegmentOutside (position (is_outside base size) s)
    ∷ option_map Overlap (position (overlaps_earlier s) (numbered s))
    ∷ []

abbrev pub entry_rules : ℕ → List Segment → List (Option ImageFault)
entry_rules entry s = fault_when (has_no_live s) NoSegment ∷ fault_when (is_bad_entry entry s) (BadEntry entry) ∷ []

abbrev after_table : ℕ → Header → List Segment → ℕ → ℕ → List (Option ImageFault)
after_table file_bytes h s base size = segment_rules file_bytes base size s ++ entry_rules h.e_entry s

abbrev after_kind : ℕ → Header → List Segment → ℕ → ℕ → List (Option ImageFault)
after_kind file_bytes h s base size = table_rules file_bytes h ++ after_table file_bytes h s base size

abbrev after_identity : ℕ → Header → List Segment → ℕ → ℕ → List (Option ImageFault)
after_identity file_bytes h s base size = kind_rules h ++ after_kind file_bytes h s base size

abbrev after_short : ℕ → Header → List Segment → ℕ → ℕ → List (Option ImageFault)
after_short file_bytes h s base size = identity_rules h ++ after_identity file_bytes h s base size

abbrev every : ℕ → Header → List Segment → ℕ → ℕ → List (Option ImageFault)
every file_bytes h s base size = short_rules file_bytes ++ after_short file_bytes h s base size

rules_are : (file : List ℕ) (h : Header) (s : List Segment) (base size : ℕ) → h ≡ header_of file → s ≡ segments_of file
    → first_some (every (length file) h s base size) ≡ refusal file base size
unfolding rules
rules_are file h s base size is_h is_s =
    ap (λ g. first_some (every (length file) g s base size)) is_h ∙ ap (λ t. first_some (every (length file) (header_of file) t base size)) is_s

-- a file is long enough for a header, or it isn't
pub too_short : (file : List ℕ) (base size : ℕ) → length file < 52 → refusal file base size ≡ Some Short
too_short file base size h =
    let test : nat_lt (length file) 52 ≡ true = grind (arith, nat_tests) in
    sym (rules_are file (header_of file) (segments_of file) base size refl refl)
    ∙ broken_before (short_rules (length file)) (after_short (length file) (header_of file) (segments_of file) base size) Short (ap (λ b. first_some (fault_when b Short ∷ [])) test)

-- what is known once the parts up to one were judged
pub record IsLong (file : List ℕ) : Type 0 where
  pub long : first_some (short_rules (length file)) ≡ None

pub long_enough : (file : List ℕ) → 52 ≤ length file → IsLong file
long_enough file h =
    let test : nat_lt (length file) 52 ≡ false = grind (arith, nat_tests) in
    record { long = ap (λ b. first_some (fault_when b Short ∷ [])) test }

past_short : (file : List ℕ) (h : Header) (s : List Segment) (base size : ℕ) → IsLong file → h ≡ header_of file → s ≡ segments_of file
    → refusal file base size ≡ first_some (after_short (length file) h s base size)
past_short file h s base size long is_h is_s =
    sym (rules_are file h s base size is_h is_s) ∙ kept_before (short_rules (length file)) (after_short (length file) h s base size) long.long

pub refused_identity : (file : List ℕ) (h : Header) (base size : ℕ) (f : ImageFault) → IsLong file → h ≡ header_of file
    → first_some (identity_rules h) ≡ Some f → refusal file base size ≡ Some f
refused_identity file h base size f long is_h broken =
    past_short file h (segments_of file) base size long is_h refl
    ∙ broken_before (identity_rules h) (after_identity (length file) h (segments_of file) base size) f broken

past_identity : (file : List ℕ) (h : Header) (s : List Segment) (base size : ℕ) → IsLong file → h ≡ header_of file → s ≡ segments_of file
    → first_some (identity_rules h) ≡ None → refusal file base size ≡ first_some (after_identity (length file) h s base size)
past_identity file h s base size long is_h is_s kept =
    past_short file h s base size long is_h is_s ∙ kept_before (identity_rules h) (after_identity (length file) h s base size) kept

pub refused_kind : (file : List ℕ) (h : Header) (base size : ℕ) (f : ImageFault) → IsLong file → h ≡ header_of file
    → first_some (identity_rules h) ≡ None → first_some (kind_rules h) ≡ Some f → refusal file base size ≡ Some f
refused_kind file h base size f long is_h kept broken =
    past_identity file h (segments_of file) base size long is_h refl kept
    ∙ broken_before (kind_rules h) (after_kind (length file) h (segments_of file) base size) f broken

past_kind : (file : List ℕ) (h : Header) (s : List Segment) (base size : ℕ) → IsLong file → h ≡ header_of file → s ≡ segments_of file
    → first_some (identity_rules h) ≡ None → first_some (kind_rules h) ≡ None
    → refusal file base size ≡ first_some (after_kind (length file) h s base size)
past_kind file h s base size long is_h is_s kept kind =
    past_identity file h s base size long is_h is_s kept ∙ kept_before (kind_rules h) (after_kind (length file) h s base size) kind

pub refused_table : (file : List ℕ) (h : Header) (base size : ℕ) (f : ImageFault) → IsLong file → h ≡ header_of file
    → first_some (identity_rules h) ≡ None → first_some (kind_rules h) ≡ None → first_some (table_rules (length file) h) ≡ Some f
    → refusal file base size ≡ Some f
refused_table file h base size f long is_h kept kind broken =
    past_kind file h (segments_of file) base size long is_h refl kept kind
    ∙ broken_before (table_rules (length file) h) (after_table (length file) h (segments_of file) base size) f broken

pub past_table : (file : List ℕ) (h : Header) (s : List Segment) (base size : ℕ) → IsLong file → h ≡ header_of file → s ≡ segments_of file
    → first_some (identity_rules h) ≡ None → first_some (kind_rules h) ≡ None → first_some (table_rules (length file) h) ≡ None
    → refusal file base size ≡ first_some (after_table (length file) h s base size)
past_table file h s base size long is_h is_s kept kind table =
    past_kind file h s base size long is_h is_s kept kind
    ∙ kept_before (table_rules (length file) h) (after_table (length file) h s base size) table

-- the parts over the program headers
pub refused_segments : (file : List ℕ) (h : Header) (s : List Segment) (base size : ℕ) (f : ImageFault) → IsLong file → h ≡ header_of file → s ≡ segments_of file
    → first_some (identity_rules h) ≡ None → first_some (kind_rules h) ≡ None → first_some (table_rules (length file) h) ≡ None
    → first_some (segment_rules (length file) base size s) ≡ Some f → refusal file base size ≡ Some f
refused_segments file h s base size f long is_h is_s kept kind table broken =
    past_table file h s base size long is_h is_s kept kind table
    ∙ broken_before (segment_rules (length file) base size s) (entry_rules h.e_entry s) f broken

pub past_segments : (file : List ℕ) (h : Header) (s : List Segment) (base size : ℕ) → IsLong file → h ≡ header_of file → s ≡ segments_of file
    → first_some (identity_rules h) ≡ None → first_some (kind_rules h) ≡ None → first_some (table_rules (length file) h) ≡ None
    → first_some (segment_rules (length file) base size s) ≡ None → refusal file base size ≡ first_some (entry_rules h.e_entry s)
past_segments file h s base size long is_h is_s kept kind table segments =
    past_table file h s base size long is_h is_s kept kind table
    ∙ kept_before (segment_rules (length file) base size s) (entry_rules h.e_entry s) segments

-- segments that break no rule can be loaded
pub loadable_by_rules : (file_bytes base size : ℕ) (s t : List Segment) → s ≡ t → first_some (segment_rules file_bytes base size s) ≡ None
    → IsLoadable file_bytes base size t
loadable_by_rules file_bytes base size s t same kept =
    let overlap = option_map Overlap (position (overlaps_earlier s) (numbered s)) in
    let outside = option_map SegmentOutside (position (is_outside base size) s) in
    let bad = option_map BadSegment (position (is_bad file_bytes) s) in
    let dynamic = option_map Dynamic (position is_dynamic s) in
    let one = rest_kept dynamic (bad ∷ outside ∷ overlap ∷ []) kept in
    let two = rest_kept bad (outside ∷ overlap ∷ []) one in
    let three = rest_kept outside (overlap ∷ []) two in
    subst (IsLoadable file_bytes base size) same
    (loadable file_bytes base size s
    (option_map-None BadSegment _ (first_kept bad (outside ∷ overlap ∷ []) one))
    (option_map-None SegmentOutside _ (first_kept outside (overlap ∷ []) two))
    (option_map-None Overlap _ (first_kept overlap [] three)))

-- the first broken rule of these isn't want of memory
record AreNamed (rules : List (Option ImageFault)) : Type 0 where
  named : first_some rules ≡ Some OutOfMemory → ⊥

abbrev is_memory : ImageFault → Bool
is_memory OutOfMemory = true
is_memory _ = false

other : (fault : ImageFault) → is_memory fault ≡ false → Some fault ≡ Some OutOfMemory → ⊥
other fault h e =
    let same : fault ≡ OutOfMemory = cc in
    let no : true ≡ false = ap is_memory (sym same) ∙ h in cc

named_none : AreNamed []
named_none = record { named = λ (e : None ≡ Some OutOfMemory). cc }

named_when : (broken : Bool) (fault : ImageFault) (rules : List (Option ImageFault)) → is_memory fault ≡ false → AreNamed rules
    → AreNamed (fault_when broken fault ∷ rules)
named_when true fault rules h rest = record { named = other fault h }
named_when false fault rules h rest = record { named = rest.named }

named_at : (fault : ℕ → ImageFault) (place : Option ℕ) (rules : List (Option ImageFault)) → ((k : ℕ) → is_memory (fault k) ≡ false) → AreNamed rules
    → AreNamed (option_map fault place ∷ rules)
named_at fault None rules h rest = record { named = rest.named }
named_at fault (Some k) rules h rest = record { named = other (fault k) (h k) }

rules_named : (file : List ℕ) (base size : ℕ) → AreNamed (rules file base size)
unfolding rules
rules_named file base size =
    let h = header_of file in
    let s = segments_of file in
    named_when (nat_lt (length file) 52) Short _ refl (
    named_when (is_not_elf h) NotElf _ refl (
    named_when (is_not_class32 h) NotClass32 _ refl (
    named_when (is_not_little h) NotLittle _ refl (
    named_when (has_bad_version h) BadVersion _ refl (
    named_when (is_not_exec h) NotExec _ refl (
    named_when (is_not_riscv h) NotRiscv _ refl (
    named_when (has_bad_flags h) (BadFlags h.e_flags) _ refl (
    named_when (has_bad_size h) BadHeaderSize _ refl (
    named_when (has_too_many h) (TooManySegments h.e_phnum) _ refl (
    named_when (is_table_outside (length file) h) TableOutside _ refl (
    named_at Dynamic (position is_dynamic s) _ (λ k. refl) (
    named_at BadSegment (position (is_bad (length file)) s) _ (λ k. refl) (
    named_at SegmentOutside (position (is_outside base size) s) _ (λ k. refl) (
    named_at Overlap (position (overlaps_earlier s) (numbered s)) _ (λ k. refl) (
    named_when (has_no_live s) NoSegment _ refl (
    named_when (is_bad_entry h.e_entry s) (BadEntry h.e_entry) _ refl named_none))))))))))))))))

-- no rule's fault is want of memory
pub refusal_is_named : (file : List ℕ) (base size : ℕ) → refusal file base size ≡ Some OutOfMemory → ⊥
refusal_is_named file base size = (rules_named file base size).named

-- so an answer that is the first fault isn't want of memory
pub never_memory : (file : List ℕ) (base size : ℕ) (f : ImageFault) → refusal file base size ≡ Some f → ◌≡◌ {A = Result ImageView ImageFault} (Err f) (Err OutOfMemory)
    → refusal file base size ≡ None
never_memory file base size f is answer =
    let same : f ≡ OutOfMemory = cc in
    absurd (refusal_is_named file base size (is ∙ ap Some same))

pub kept_one : (rule : Option ImageFault) (rules : List (Option ImageFault)) → rule ≡ None → first_some (rule ∷ rules) ≡ first_some rules
kept_one None rules h = refl
kept_one (Some f) rules h = cc

-- where no rule is broken, none is in each part
front_kept : (front back : List (Option ImageFault)) → first_some (front ++ back) ≡ None → first_some front ≡ None
front_kept [] back h = refl
front_kept (None ∷ front) back h = front_kept front back h
front_kept (Some f ∷ front) back h = h

back_kept : (front back : List (Option ImageFault)) → first_some (front ++ back) ≡ None → first_some back ≡ None
back_kept [] back h = h
back_kept (None ∷ front) back h = back_kept front back h
back_kept (Some f ∷ front) back h = cc

kept_after_table : (file : List ℕ) (base size : ℕ) → refusal file base size ≡ None
    → first_some (after_table (length file) (header_of file) (segments_of file) base size) ≡ None
kept_after_table file base size kept =
    let n = length file in
    let h = header_of file in
    let s = segments_of file in
    let one = back_kept (short_rules n) (after_short n h s base size) (rules_are file h s base size refl refl ∙ kept) in
    let two = back_kept (identity_rules h) (after_identity n h s base size) one in
    let three = back_kept (kind_rules h) (after_kind n h s base size) two in
    back_kept (table_rules n h) (after_table n h s base size) three

pub loadable_where_kept : (file : List ℕ) (base size : ℕ) → refusal file base size ≡ None → IsLoadable (length file) base size (segments_of file)
loadable_where_kept file base size kept =
    let s = segments_of file in
    loadable_by_rules (length file) base size s s refl
    (front_kept (segment_rules (length file) base size s) (entry_rules (header_of file).e_entry s) (kept_after_table file base size kept))

kept_test : (b : Bool) (fault : ImageFault) → fault_when b fault ≡ None → b ≡ false
kept_test true fault h = cc
kept_test false fault h = refl

pub entry_where_kept : (file : List ℕ) (base size : ℕ) → refusal file base size ≡ None → is_bad_entry (header_of file).e_entry (segments_of file) ≡ false
entry_where_kept file base size kept =
    let s = segments_of file in
    let entry = (header_of file).e_entry in
    let none = fault_when (has_no_live s) NoSegment in
    let bad = fault_when (is_bad_entry entry s) (BadEntry entry) in
    let parts = back_kept (segment_rules (length file) base size s) (entry_rules entry s) (kept_after_table file base size kept) in
    kept_test _ (BadEntry entry) (first_kept bad [] (rest_kept none (bad ∷ []) parts))
