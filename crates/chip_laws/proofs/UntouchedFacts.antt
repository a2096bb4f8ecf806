-- No byte that a committed portion loaded from outside was stored to since its opening.
use Rattle.std.proofs.Common.{◌≡◌, ◌+◌, ◌-◌, ◌<◌, ℕ, zero, suc, true, false, List, [], ◌∷◌, refl, sym, ap, ◌∙◌, subst, arith, ◌||◌, eqb, ◌⊎◌, inl, inr, Option, Some, None, map, take}
use Rattle.std.proofs.lemmas.Bool.{false≢true, cond_both, eqb-true, eq-eqb, or_parts, or_cases, or_left, or_right, cases_eq, false_from_ne_true}
use Rattle.conda_base.specs.declared.Line.{Line}
use Rattle.conda_base.specs.declared.actor.Actor.{Actor}
use Rattle.schedule_log.specs.declared.entry.Entry.{Entry}
use Rattle.schedule_log.specs.declared.entry.Entry.TheVariants.{Step, Waits, Idle, Held, Open, Lock, Spec, Commit, Back, Flush, Kern}
use Rattle.try_runs.specs.Tries.{Try, writes}
use Rattle.chip_laws.specs.Design.{Design, IsDesign, setup_of}
use Rattle.chip_laws.specs.Rules.{World, Seat, Opening, try_of, reads_of, writes_of, next}
use Rattle.chip_laws.specs.Worlds.{flat_after, changed, told, one_more, seat_after, happens, start_world}
use Rattle.chip_laws.specs.Entries.{is_opening, is_boundary}
use Rattle.std.specs.List.{slice_get}
use Rattle.std.specs.Option.{option_map, option_map_or}
use Rattle.offload_calls.specs.Stores.{is_listed}
use Rattle.offload_calls.specs.CoreActs.{outside, written}
use Rattle.conda_base.specs.LineLists.{names, line_at, same_line}
use Rattle.try_runs.specs.Serial.{AreFresh, IsSerial, try_in}
use Rattle.conda_base.proofs.LineListLemmas.{names-append}
use Rattle.try_runs.proofs.HartLines.{step_addresses}
use Rattle.try_runs.proofs.Serial.{serial}
use Rattle.chip_laws.specs.Untouched.{stores_of, outside_at, stores_at, AlwaysUntouched}
use Rattle.chip_laws.proofs.WorldFacts.{apart, Allowed, CommitsAt, next-allowed, try_now, fills-fresh}
use Rattle.chip_laws.proofs.FreshFacts.{world-good, start-good}
use Rattle.chip_laws.specs.Places.{world_at, entry_at, IsOpenedAt}
use Rattle.chip_laws.proofs.PlaceFacts.{after_option, world_next, EndsAt, ends_of, openings, opened_of}
use Rattle.chip_laws.specs.Sound.{FitsAt, KeepsFresh}

-- ---- what an open try is told

-- a later opening knows all lines of an earlier one, and these
abbrev pub Tells : Option Opening → List Line → Option Opening → Type 0
Tells None ls y = Unit {0}
Tells (Some o) ls None = ⊥
Tells (Some o) ls (Some q) = (l : Line) → (names o.foreign l ≡ true) ⊎ (names ls l ≡ true) → names q.foreign l ≡ true

tells_told : (x : Option Opening) (ls : List Line) → Tells x ls (told ls x)
tells_told None ls = tt
tells_told (Some o) ls = λ l c. names-append o.foreign ls l ∙ either l c
  where
    either : (l : Line) → (names o.foreign l ≡ true) ⊎ (names ls l ≡ true) → (names o.foreign l || names ls l) ≡ true
    either l (inl h) = or_left _ _ h
    either l (inr h) = or_right _ _ h

tells_same : (x : Option Opening) → Tells x [] x
tells_same None = tt
tells_same (Some o) = λ l c. either l c
  where
    either : (l : Line) → (names o.foreign l ≡ true) ⊎ (names [] l ≡ true) → names o.foreign l ≡ true
    either l (inl h) = h
    either l (inr h) = absurd (false≢true h)

tells_more : (p : Design) (w : World) (x : Option Opening) → Tells x [] (one_more p w x)
tells_more p w None = tt
tells_more p w (Some o) = tells_same (Some o)

-- each entry but its own opening or end tells an open try what it changes
pub tells : (p : Design) (w : World) (e : Entry) (j : ℕ) → is_boundary j e ≡ false
    → Tells (w.seats j).opening (changed p w e) (seat_after p w (flat_after p w.flat e) e j).opening
tells p w (Step h) j d = tells_told (w.seats j).opening (changed p w (Step h))
tells p w (Waits h) j d = tells_same (w.seats j).opening
tells p w (Idle a) j d = tells_same (w.seats j).opening
tells p w (Held a) j d = tells_same (w.seats j).opening
tells p w (Kern k) j d = tells_same (w.seats j).opening
tells p w (Open k) j d =
    cond_both (eqb j k) _ _ (λ (s : Seat). Tells (w.seats j).opening [] s.opening)
    (λ e. absurd (false≢true (sym (or_parts (eqb k j) false d).0 ∙ eq-eqb k j (sym (eqb-true j k e))))) (λ _. tells_same (w.seats j).opening)
tells p w (Lock k) j d =
    cond_both (eqb j k) _ _ (λ (s : Seat). Tells (w.seats j).opening [] s.opening)
    (λ e. absurd (false≢true (sym (or_parts (eqb k j) false d).0 ∙ eq-eqb k j (sym (eqb-true j k e))))) (λ _. tells_same (w.seats j).opening)
tells p w (Spec k) j d =
    cond_both (eqb j k) (record (w.seats k) { opening = one_more p w (w.seats k).opening }) (w.seats j) (λ (s : Seat). Tells (w.seats j).opening [] s.opening)
    (λ e. subst (λ i. Tells (w.seats i).opening [] (one_more p w (w.seats k).opening)) (sym (eqb-true j k e)) (tells_more p w (w.seats k).opening))
    (λ _. tells_same (w.seats j).opening)
tells p w (Commit k n c) j d =
    cond_both (eqb j k) _ _ (λ (s : Seat). Tells (w.seats j).opening (changed p w (Commit k n c)) s.opening)
    (λ e. absurd (false≢true (sym d ∙ eq-eqb k j (sym (eqb-true j k e))))) (λ _. tells_told (w.seats j).opening (changed p w (Commit k n c)))
tells p w (Back k n c) j d =
    cond_both (eqb j k) _ _ (λ (s : Seat). Tells (w.seats j).opening [] s.opening)
    (λ e. absurd (false≢true (sym d ∙ eq-eqb k j (sym (eqb-true j k e))))) (λ _. tells_same (w.seats j).opening)
tells p w (Flush k) j d =
    cond_both (eqb j k) (record (w.seats k) { due = (w.seats k).due - 1 }) (w.seats j) (λ (s : Seat). Tells (w.seats j).opening [] s.opening)
    (λ e. subst (λ i. Tells (w.seats i).opening [] (w.seats k).opening) (sym (eqb-true j k e)) (tells_same (w.seats k).opening))
    (λ _. tells_same (w.seats j).opening)

abbrev HasOpening : Option Opening → Type 0
HasOpening None = ⊥
HasOpening (Some o) = Unit {0}

opens_it : (p : Design) (w : World) (e : Entry) (j : ℕ) → is_opening j e ≡ true → HasOpening (seat_after p w (flat_after p w.flat e) e j).opening
opens_it p w (Open k) j d = cond_both (eqb j k) _ _ (λ (s : Seat). HasOpening s.opening) (λ _. tt) (λ ne. absurd (false≢true (sym ne ∙ eq-eqb j k (sym (eqb-true k j d)))))
opens_it p w (Lock k) j d = cond_both (eqb j k) _ _ (λ (s : Seat). HasOpening s.opening) (λ _. tt) (λ ne. absurd (false≢true (sym ne ∙ eq-eqb j k (sym (eqb-true k j d)))))
opens_it p w (Step h) j d = absurd (false≢true d)
opens_it p w (Waits h) j d = absurd (false≢true d)
opens_it p w (Idle a) j d = absurd (false≢true d)
opens_it p w (Held a) j d = absurd (false≢true d)
opens_it p w (Kern k) j d = absurd (false≢true d)
opens_it p w (Spec k) j d = absurd (false≢true d)
opens_it p w (Commit k n c) j d = absurd (false≢true d)
opens_it p w (Back k n c) j d = absurd (false≢true d)
opens_it p w (Flush k) j d = absurd (false≢true d)

-- ---- what an open try knows of the places since its opening

-- the lines that place u changes
abbrev changed_at : Design → List Actor → ℕ → List Line
changed_at p s u = option_map_or (changed p (world_at p s u)) (entry_at p s u) []

abbrev Knows : Design → List Actor → ℕ → ℕ → Option Opening → Type 0
Knows p s o t None = ⊥
Knows p s o t (Some q) = (u : ℕ) → o < u → u < t → (l : Line) → names (changed_at p s u) l ≡ true → names q.foreign l ≡ true

-- the seat of core j at place t
abbrev seat_at : Design → List Actor → ℕ → ℕ → Option Opening
seat_at p s t j = ((world_at p s t).seats j).opening

-- what a place does to what is told
tells_at : (p : Design) (w : World) (x : Option Actor) (j : ℕ) → option_map_or (is_boundary j) (option_map (next p w) x) false ≡ false
    → Tells (w.seats j).opening (option_map_or (changed p w) (option_map (next p w) x) []) ((after_option p w x).seats j).opening
unfolding happens after_option
tells_at p w None j d = tells_same (w.seats j).opening
tells_at p w (Some a) j d = tells p w (next p w a) j d

opens_at : (p : Design) (w : World) (x : Option Actor) (j : ℕ) → option_map_or (is_opening j) (option_map (next p w) x) false ≡ true
    → HasOpening ((after_option p w x).seats j).opening
unfolding happens after_option
opens_at p w None j d = absurd (false≢true d)
opens_at p w (Some a) j d = opens_it p w (next p w a) j d

knows_more : (p : Design) (s : List Actor) (o t : ℕ) (x y : Option Opening) → Knows p s o t x → Tells x (changed_at p s t) y → Knows p s o (suc t) y
knows_more p s o t None y k h = absurd k
knows_more p s o t (Some q) None k h = absurd h
knows_more p s o t (Some q) (Some r) k h = λ u a b l c. go u a b l c (cases_eq u t)
  where
    go : (u : ℕ) → o < u → u < suc t → (l : Line) → names (changed_at p s u) l ≡ true → ((u ≡ t) ⊎ (u ≡ t → ⊥)) → names r.foreign l ≡ true
    go u a b l c (inl e) = h l (inr (subst (λ v. names (changed_at p s v) l ≡ true) e c))
    go u a b l c (inr ne) = h l (inl (k u a (omega arith) l c))

knows_first : (p : Design) (s : List Actor) (o : ℕ) (x : Option Opening) → HasOpening x → Knows p s o (suc o) x
knows_first p s o None h = h
knows_first p s o (Some q) h = λ u a b l c. absurd (omega arith)

-- from the opening on, the try's foreign lines have all that was changed
knows : (p : Design) (s : List Actor) (j o : ℕ) → option_map_or (is_opening j) (entry_at p s o) false ≡ true
    → (n : ℕ) → ((u : ℕ) → o < u → u < n + suc o → option_map_or (is_boundary j) (entry_at p s u) false ≡ false)
    → Knows p s o (n + suc o) (seat_at p s (n + suc o) j)
knows p s j o op zero none =
    subst (λ t. Knows p s o t (seat_at p s t j)) (sym (zero_add (suc o)))
    (subst (λ (w : World). Knows p s o (suc o) (w.seats j).opening) (sym (world_next p s o))
    (knows_first p s o ((after_option p (world_at p s o) (slice_get s o)).seats j).opening (opens_at p (world_at p s o) (slice_get s o) j op)))
  where
    zero_add : (m : ℕ) → zero + m ≡ m
    zero_add m = omega arith
knows p s j o op (suc n) none =
    let t : ℕ = n + suc o in
    let before : Knows p s o t (seat_at p s t j) = knows p s j o op n (λ u a b. none u a (omega arith)) in
    subst (λ m. Knows p s o m (seat_at p s m j)) (suc_add n (suc o))
    (subst (λ (w : World). Knows p s o (suc t) (w.seats j).opening) (sym (world_next p s t))
    (knows_more p s o t (seat_at p s t j) ((after_option p (world_at p s t) (slice_get s t)).seats j).opening before
    (tells_at p (world_at p s t) (slice_get s t) j (none t (omega arith) (omega arith)))))
  where
    suc_add : (a b : ℕ) → suc (a + b) ≡ suc a + b
    suc_add a b = omega arith

-- ---- stores lie on changed lines

names-map : (n : ℕ) (xs : List ℕ) (a : ℕ) → is_listed xs a ≡ true → names (map (line_at n) xs) (line_at n a) ≡ true
names-map n [] a h = absurd (false≢true h)
names-map n (x ∷ xs) a h = go (or_cases (eqb x a) (is_listed xs a) h) (names-map n xs a)
  where
    go : (eqb x a ≡ true) ⊎ (is_listed xs a ≡ true) → (is_listed xs a ≡ true → names (map (line_at n) xs) (line_at n a) ≡ true)
        → (same_line (line_at n x) (line_at n a) || names (map (line_at n) xs) (line_at n a)) ≡ true
    go (inl e) ih = or_left _ _ (eq-eqb (line_at n x).0 (line_at n a).0 (ap (λ y. (line_at n y).0) (eqb-true x a e)))
    go (inr r) ih = or_right _ _ (ih r)

-- a portion that may commit loads and stores on the lines of its try
record PortionLines (p : Design) (w : World) (j n : ℕ) (x : Option Opening) : Type 0 where
  loads : (l : Line) → names (map (line_at p.config.line_bytes) (outside (setup_of p) w.flat j n)) l ≡ names (reads_of p x) l
  stores : (l : Line) → names (map (line_at p.config.line_bytes) (written (setup_of p) w.flat j n)) l ≡ names (writes_of p x) l

portion_lines : (p : Design) (w : World) (j n : ℕ) (x : Option Opening) → KeepsFresh p w → FitsAt p w j x → CommitsAt p n x → PortionLines p w j n x
portion_lines p w j n None g f a = absurd a
portion_lines p w j n (Some o) g f a =
    let same : try_in (setup_of p) w.flat j o.fills n ≡ try_of p o = try_now p w j n o f a.0 in
    let s : IsSerial (setup_of p) w.flat j n (try_in (setup_of p) w.flat j o.fills n) =
    serial (setup_of p) w.flat j n o.fills g.setup g.long f.runs
    (subst (λ (t : Try). AreFresh (setup_of p) w.flat o.fills t.reads) (sym same) (fills-fresh p w j o f a.1)) in
    record {
      loads = λ l. s.reads l ∙ ap (λ (t : Try). names t.reads l) same;
      stores = λ l. s.writes l ∙ ap (λ (t : Try). names (writes p.config.line_bytes t) l) same;
    }

-- an address on no changed line is not stored to
stores_changed : (p : Design) (w : World) → KeepsFresh p w → (e : Entry) → Allowed p w e → (a : ℕ)
    → names (changed p w e) (line_at p.config.line_bytes a) ≡ false → is_listed (stores_of p w e) a ≡ false
stores_changed p w g (Step h) ok a out = step_addresses (setup_of p) w.flat h a g.setup out
stores_changed p w g (Commit j n c) ok a out =
    false_from_ne_true _ (λ there.
    false≢true (sym out ∙ (sym ((portion_lines p w j n (w.seats j).opening g (g.opens j) ok).stores (line_at p.config.line_bytes a))
    ∙ names-map p.config.line_bytes _ a there)))
stores_changed p w g (Waits h) ok a out = refl
stores_changed p w g (Idle b) ok a out = refl
stores_changed p w g (Held b) ok a out = refl
stores_changed p w g (Open j) ok a out = refl
stores_changed p w g (Lock j) ok a out = refl
stores_changed p w g (Spec j) ok a out = refl
stores_changed p w g (Back j n c) ok a out = refl
stores_changed p w g (Flush j) ok a out = refl
stores_changed p w g (Kern j) ok a out = refl

stores_changed_at : (p : Design) (w : World) → KeepsFresh p w → (x : Option Actor) (a : ℕ)
    → names (option_map_or (changed p w) (option_map (next p w) x) []) (line_at p.config.line_bytes a) ≡ false
    → is_listed (option_map_or (stores_of p w) (option_map (next p w) x) []) a ≡ false
stores_changed_at p w g None a h = refl
stores_changed_at p w g (Some b) a h = stores_changed p w g (next p w b) (next-allowed p w b) a h

-- what a commit's place says of its try
commits_at : (p : Design) (w : World) (x : Option Actor) (j n c : ℕ) → option_map (next p w) x ≡ Some (Commit j n c) → CommitsAt p n (w.seats j).opening
commits_at p w None j n c e = absurd (let k : None ≡ Some (Commit j n c) = e in cc)
commits_at p w (Some b) j n c e =
    let same : next p w b ≡ Commit j n c = cc in
    subst (Allowed p w) same (next-allowed p w b)

apart_from : (p : Design) (s : List Actor) (o t n : ℕ) (x : Option Opening) → CommitsAt p n x → Knows p s o t x → (l : Line) → names (reads_of p x) l ≡ true
    → (u : ℕ) → o < u → u < t → names (changed_at p s u) l ≡ false
apart_from p s o t n None c k l r u a b = absurd c
apart_from p s o t n (Some q) c k l r u a b =
    false_from_ne_true _ (λ there. false≢true (sym (apart p.config.sig_bits (try_of p q).reads q.foreign l c.1 r) ∙ k u a b l there))

-- no place after the opening stores to what the committed portion loaded
apart_since : (p : Design) (s : List Actor) → IsDesign p → (t j n c o : ℕ) → entry_at p s t ≡ Some (Commit j n c) → IsOpenedAt p s j o t
    → (u : ℕ) → o < u → u < t → (a : ℕ) → is_listed (outside_at p s t j n) a ≡ true → is_listed (stores_at p s u) a ≡ false
apart_since p s is t j n c o e at u lo hi a load =
    stores_changed_at p (world_at p s u) (good u) (slice_get s u) a
    (apart_from p s o t n (w.seats j).opening commits known (line_at p.config.line_bytes a) read u lo hi)
  where
    good : (t : ℕ) → KeepsFresh p (world_at p s t)
    good t = world-good p (start_world p) (take t s) (start-good p is)

    w : World
    w = world_at p s t

    commits : CommitsAt p n (w.seats j).opening
    commits = commits_at p w (slice_get s t) j n c e

    length_is : (t - suc o) + suc o ≡ t
    length_is = let before : o < t = at.before in omega arith

    known : Knows p s o t (seat_at p s t j)
    known =
        subst (λ m. Knows p s o m (seat_at p s m j)) length_is
        (knows p s j o at.here (t - suc o) (λ u a b. at.since u a (subst (λ m. u < m) length_is b)))

    read : names (reads_of p (w.seats j).opening) (line_at p.config.line_bytes a) ≡ true
    read =
        sym ((portion_lines p w j n (w.seats j).opening (good t) ((good t).opens j) commits).loads (line_at p.config.line_bytes a))
        ∙ names-map p.config.line_bytes _ a load

pub untouched : AlwaysUntouched
untouched p s is t j n c e = (
  opened.0,
  record { opened = opened.1; apart = apart_since p s is t j n c opened.0 e opened.1 },
)
  where
    w : World
    w = world_at p s t

    ends : EndsAt n (w.seats j).opening
    ends = ends_of p n (w.seats j).opening (commits_at p w (slice_get s t) j n c e)

    opened : (o : ℕ) × IsOpenedAt p s j o t
    opened = let end = opened_of p s j n t (w.seats j).opening (openings p s j t) ends in (end.0, end.1.opened)
