-- Memory's own copies follow from tags and view.
use Rattle.std.proofs.Common.{◌≡◌, ◌≢◌, ℕ, ◌%◌, ◌<◌, ⊎_elim, true, false, List, [], ◌∷◌, ◌++◌, Option, Some, length, sym, ap, subst, ◌∙◌, refl, ◌&&◌}
use Rattle.std.specs.Option.{is_some}
use Rattle.std.proofs.lemmas.Bool.{cases_Bool}
use Rattle.set_assoc.specs.Entries.{lookup}
use Rattle.conda_base.specs.declared.Line.{Line}
use Rattle.conda_base.specs.Lines.{IsLineOf}
use Rattle.conda_base.specs.declared.Mesi.{Mesi}
use Rattle.conda_base.specs.declared.Mesi.TheVariants.{M}
use Rattle.traffic_trace.specs.Notes.{Trace, noted}
use Rattle.traffic_trace.specs.declared.note.Note.{Note}
use Rattle.line_memory.specs.Notes.{all_noted}
use Rattle.line_memory.specs.Memory.{IsIn, line_of}
use Rattle.line_memory.specs.Tags.{held_state, is_in_m}
use Rattle.line_memory.specs.Backing.{BackingView, HasSameNumbers, view_of, shape_of, IsInRange, copy_of}
use Rattle.line_memory.proofs.BelowLemmas.{none_at, some_exists, some_found}
use Rattle.line_memory.specs.Copies.{has_same_owner}
use Rattle.coherent_mem.specs.Moves.{HasNoNewDirty}
use Rattle.coherent_mem.specs.Parts.{Parts, AreParts, held, shown}
use Rattle.coherent_mem.proofs.LineFacts.{seen_all}
use Rattle.coherent_mem.proofs.ViewFacts.{view_of_shown, length_view}
use Rattle.coherent_mem.proofs.MoveFacts.{state_held, holder_of}
use Rattle.coherent_mem.proofs.DirtyFacts.{copy_next, is_dirty, is_m}

-- memory's numbers stay along two changes, and no line becomes M in two quiet ones
pub numbers_twice : (a b c : BackingView) → HasSameNumbers a b → HasSameNumbers b c → HasSameNumbers a c
numbers_twice a b c first second = record {
  line_bytes = second.line_bytes ∙ first.line_bytes;
  base = second.base ∙ first.base;
  holders = second.holders ∙ first.holders;
  sets = second.sets ∙ first.sets;
  ways = second.ways ∙ first.ways;
  size = second.size ∙ first.size;
}

pub quiet_twice : (a b c : BackingView) → HasNoNewDirty a b → HasNoNewDirty b c → HasNoNewDirty a c
quiet_twice a b c first second = record {
  dirty = λ l k m. first.dirty l k (second.dirty l k m);
  copies = λ l k m. second.copies l k m ∙ first.copies l k (second.dirty l k m);
}

pub quiet_same : (a : BackingView) → HasNoNewDirty a a
quiet_same a = record { dirty = λ l k m. m; copies = λ l k m. refl }

pub not_m : (o : Option Mesi) → is_in_m o ≡ false → o ≢ Some M
not_m o is same = let both : true ≡ false = sym (ap is_in_m same) ∙ is in cc

-- a line that nobody has in M is in memory as users see it
pub clean_copy : (p : Parts) → AreParts p → (l : Line) → IsIn p.memory l → ((k : ℕ) → held_state (shape_of (shown p)) (shown p).tags k l ≢ Some M) → copy_of (shown p) l ≡ view_of (shown p) l
clean_copy p are l there none =
    let kept = are.kept l there in
    sym (view_of_shown p are l there ∙ seen_all (length p.caches) (held p l) (line_of p.memory l) (line_of p.memory l)
    (λ k a at. kept.clean k a at (λ same. none k (state_held p are l k a at ∙ ap (λ s. Some s) same))) refl)

-- nobody past the holders has a line
pub state_inside : (p : Parts) → AreParts p → (l : Line) (k : ℕ) (state : Mesi) → held_state (shape_of (shown p)) (shown p).tags k l ≡ Some state → k < length p.caches
state_inside p are l k state is = holder_of p k l are (ap is_some is)

pub not_dirty : (p : Parts) → AreParts p → (l : Line) → is_dirty (shape_of (shown p)) (shown p).tags l ≡ false → (k : ℕ) → held_state (shape_of (shown p)) (shown p).tags k l ≢ Some M
not_dirty p are l none k m =
    not_m _ (none_at (length p.caches) k (λ h. is_in_m (held_state (shape_of (shown p)) (shown p).tags h l)) none (state_inside p are l k M m)) m

-- after a quiet change with the same view the copies are those that follow
pub copies_follow : (p q : Parts) → AreParts p → AreParts q → HasSameNumbers (shown p) (shown q) → HasNoNewDirty (shown p) (shown q) → (l : Line) → IsIn q.memory l → copy_of (shown q) l ≡ copy_next (shown p) (shown q) l
copies_follow p q are new same quiet l there =
    ⊎_elim
    (λ (dirty : is_dirty (shape_of (shown q)) (shown q).tags l ≡ true).
    let found = some_exists (length q.caches) (λ h. is_in_m (held_state (shape_of (shown q)) (shown q).tags h l)) dirty in
    let now : held_state (shape_of (shown q)) (shown q).tags found.0 l ≡ Some M = is_m _ found.2 in
    let was : held_state (shape_of (shown p)) (shown p).tags found.0 l ≡ Some M = quiet.dirty l found.0 now in
    let was_here : held_state (shape_of (shown q)) (shown p).tags found.0 l ≡ Some M = ap (λ (n : ℕ). lookup l ((shown p).tags found.0 (l.0 % n))) same.sets ∙ was in
    let both : (is_in_m (held_state (shape_of (shown q)) (shown p).tags found.0 l) && is_in_m (held_state (shape_of (shown q)) (shown q).tags found.0 l)) ≡ true =
    rw (was_here, now) refl in
    let stays : has_same_owner (shape_of (shown q)) (shown p).tags (shown q).tags l ≡ true =
    some_found (length q.caches) found.0 (λ h. is_in_m (held_state (shape_of (shown q)) (shown p).tags h l) && is_in_m (held_state (shape_of (shown q)) (shown q).tags h l)) found.1 both in
    rw (dirty, stays) (quiet.copies l found.0 now))
    (λ (clean : is_dirty (shape_of (shown q)) (shown q).tags l ≡ false).
    rw clean (clean_copy q new l there (not_dirty q new l clean)))
    (cases_Bool (is_dirty (shape_of (shown q)) (shown q).tags l))

-- some notes and then some more
pub noted_twice : (trace : Trace) (first second : List Note) → all_noted trace (first ++ second) ≡ all_noted (all_noted trace first) second
noted_twice trace [] second = refl
noted_twice trace (note ∷ first) second = noted_twice (noted trace note) first second

-- a line that is in range of one is in range of the other
pub range_in : (p : Parts) → AreParts p → (l : Line) → IsInRange (shown p) l → IsIn p.memory l
range_in p are l there = subst (λ (n : ℕ). IsLineOf p.memory.base n p.memory.line_bytes l.0) (length_view p are) there

pub range_of : (p : Parts) → AreParts p → (l : Line) → IsIn p.memory l → IsInRange (shown p) l
range_of p are l there = subst (λ (n : ℕ). IsLineOf p.memory.base n p.memory.line_bytes l.0) (sym (length_view p are)) there

pub range_new : (p q : Parts) → AreParts p → AreParts q → HasSameNumbers (shown p) (shown q) → (l : Line) → IsInRange (shown p) l → IsIn q.memory l
range_new p q are new same l there =
    let one : IsLineOf (shown q).base (length (shown p).view) (shown p).line_bytes l.0 = subst (λ (b : ℕ). IsLineOf b (length (shown p).view) (shown p).line_bytes l.0) (sym same.base) there in
    let two : IsLineOf (shown q).base (length (shown q).view) (shown p).line_bytes l.0 = subst (λ (s : ℕ). IsLineOf (shown q).base s (shown p).line_bytes l.0) (sym same.size) one in
    let three : IsInRange (shown q) l = subst (λ (n : ℕ). IsLineOf (shown q).base (length (shown q).view) n l.0) (sym same.line_bytes) two in
    range_in q new l three
