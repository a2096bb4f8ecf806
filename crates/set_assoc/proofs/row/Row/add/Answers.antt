use Rattle.std.proofs.Common.{◌≡◌, ◌≢◌, ◌<◌, ◌≤◌, ◌∷◌, ◌+◌, ◌-◌, ℕ, None, length, take, set, ap, ◌∙◌, rules, arith}
use Rattle.set_assoc.specs.Entries.{lookup}
use Rattle.set_assoc.specs.Ages.{IsRaised, lines_by_age, place_of_age}
use Rattle.set_assoc.proofs.RowLemmas.{opened, added_lines, IsRow-added, front_taken, length-lines, are_places}
use Rattle.set_assoc.proofs.row.Row.add.Goals as goal
use Rattle.set_assoc.proofs.row.Row.add.Goals.{then-self-ways, else-self-ways}

pub index_mut-requires : goal.index_mut-requires
index_mut-requires g c =
    let old = c.self.inside in
    let is = c.self.invariant.0 in
    let used : length (lines_by_age old.entries.items old.ages old.used) ≡ old.used = length-lines old.entries.items old.ages old.used is.filled in
    let seen : length (lines_by_age old.entries.items old.ages old.used) ≡ length c.args.self.now = ap length c.self.view_is in
    let some = c.requires.some in
    let few = c.requires.few in
    let fits = c.requires.fits in
    let age : ℕ = c.if-self-ways.age in
    let full : old.used ≡ c.args.ways → c.if-self-ways.age ≡ c.args.ways - 1 = λ same. elim c.if-self-ways.branch [ then-self-ways w ↦ w.age-is | else-self-ways w ↦ absurd (w.if-self-ways.false same) ] in
    let room : old.used ≢ c.args.ways → c.if-self-ways.age ≡ old.used = λ other. elim c.if-self-ways.branch [ then-self-ways w ↦ absurd (other w.if-self-ways.true) | else-self-ways w ↦ w.age-is ] in
    let le : c.if-self-ways.age ≤ old.used = omega (arith, full, room) in
    let small : c.if-self-ways.age < c.args.ways = omega (arith, full, room) in
    let fresh = opened old.entries.items c.open_place.new.entries.items (c.args.line, c.args.value) old.ages c.open_place.new.ages old.used c.if-self-ways.age is le (omega arith) c.open_place.ensures.kept c.open_place.ensures.more in
    let place : c.place_of_age-place.result ≡ place_of_age c.open_place.new.ages c.if-self-ways.age = c.place_of_age-place.ensures in
    let there = (fresh.row.aged.by_age c.if-self-ways.age fresh.within).0 in
    omega (arith, place, there, c.open_place.new.entries.ok.0)

pub raise-requires : goal.raise-requires
raise-requires g c =
    let old = c.self.inside in
    let is = c.self.invariant.0 in
    let used : length (lines_by_age old.entries.items old.ages old.used) ≡ old.used = length-lines old.entries.items old.ages old.used is.filled in
    let seen : length (lines_by_age old.entries.items old.ages old.used) ≡ length c.args.self.now = ap length c.self.view_is in
    let some = c.requires.some in
    let few = c.requires.few in
    let fits = c.requires.fits in
    let age : ℕ = c.if-self-ways.age in
    let full : old.used ≡ c.args.ways → c.if-self-ways.age ≡ c.args.ways - 1 = λ same. elim c.if-self-ways.branch [ then-self-ways w ↦ w.age-is | else-self-ways w ↦ absurd (w.if-self-ways.false same) ] in
    let room : old.used ≢ c.args.ways → c.if-self-ways.age ≡ old.used = λ other. elim c.if-self-ways.branch [ then-self-ways w ↦ absurd (other w.if-self-ways.true) | else-self-ways w ↦ w.age-is ] in
    let le : c.if-self-ways.age ≤ old.used = omega (arith, full, room) in
    let small : c.if-self-ways.age < c.args.ways = omega (arith, full, room) in
    let fresh = opened old.entries.items c.open_place.new.entries.items (c.args.line, c.args.value) old.ages c.open_place.new.ages old.used c.if-self-ways.age is le (omega arith) c.open_place.ensures.kept c.open_place.ensures.more in
    let place : c.place_of_age-place.result ≡ place_of_age c.open_place.new.ages c.if-self-ways.age = c.place_of_age-place.ensures in
    let there = (fresh.row.aged.by_age c.if-self-ways.age fresh.within).0 in
    omega (arith, place, there, fresh.row.few)

pub invariant_of-self : goal.invariant_of-self
invariant_of-self g c =
    let old = c.self.inside in
    let is = c.self.invariant.0 in
    let used : length (lines_by_age old.entries.items old.ages old.used) ≡ old.used = length-lines old.entries.items old.ages old.used is.filled in
    let seen : length (lines_by_age old.entries.items old.ages old.used) ≡ length c.args.self.now = ap length c.self.view_is in
    let some = c.requires.some in
    let few = c.requires.few in
    let fits = c.requires.fits in
    let age : ℕ = c.if-self-ways.age in
    let full : old.used ≡ c.args.ways → c.if-self-ways.age ≡ c.args.ways - 1 = λ same. elim c.if-self-ways.branch [ then-self-ways w ↦ w.age-is | else-self-ways w ↦ absurd (w.if-self-ways.false same) ] in
    let room : old.used ≢ c.args.ways → c.if-self-ways.age ≡ old.used = λ other. elim c.if-self-ways.branch [ then-self-ways w ↦ absurd (other w.if-self-ways.true) | else-self-ways w ↦ w.age-is ] in
    let le : c.if-self-ways.age ≤ old.used = omega (arith, full, room) in
    let small : c.if-self-ways.age < c.args.ways = omega (arith, full, room) in
    let fresh = opened old.entries.items c.open_place.new.entries.items (c.args.line, c.args.value) old.ages c.open_place.new.ages old.used c.if-self-ways.age is le (omega arith) c.open_place.ensures.kept c.open_place.ensures.more in
    let place : c.place_of_age-place.result ≡ place_of_age c.open_place.new.ages c.if-self-ways.age = c.place_of_age-place.ensures in
    let there = (fresh.row.aged.by_age c.if-self-ways.age fresh.within).0 in
    let raised : IsRaised c.open_place.new.ages (place_of_age c.open_place.new.ages c.if-self-ways.age) c.raise.new.ages = rw (← place) c.raise.ensures in
    let absent : lookup c.args.line (lines_by_age c.open_place.new.entries.items c.open_place.new.ages old.used) ≡ None =
    ap (λ es. lookup c.args.line es) (fresh.lines ∙ c.self.view_is) ∙ c.requires.absent in (
      rw place (IsRow-added c.open_place.new.entries.items c.open_place.new.ages c.raise.new.ages old.used c.if-self-ways.age c.args.line c.args.value fresh.row fresh.within le raised absent),
      omega (arith, c.self.invariant.1, c.open_place.ensures.capacity),
    )

pub returns-clause-front : goal.returns-clause-front
returns-clause-front g c =
    let old = c.self.inside in
    let is = c.self.invariant.0 in
    let used : length (lines_by_age old.entries.items old.ages old.used) ≡ old.used = length-lines old.entries.items old.ages old.used is.filled in
    let seen : length (lines_by_age old.entries.items old.ages old.used) ≡ length c.args.self.now = ap length c.self.view_is in
    let some = c.requires.some in
    let few = c.requires.few in
    let fits = c.requires.fits in
    let age : ℕ = c.if-self-ways.age in
    let full : old.used ≡ c.args.ways → c.if-self-ways.age ≡ c.args.ways - 1 = λ same. elim c.if-self-ways.branch [ then-self-ways w ↦ w.age-is | else-self-ways w ↦ absurd (w.if-self-ways.false same) ] in
    let room : old.used ≢ c.args.ways → c.if-self-ways.age ≡ old.used = λ other. elim c.if-self-ways.branch [ then-self-ways w ↦ absurd (other w.if-self-ways.true) | else-self-ways w ↦ w.age-is ] in
    let le : c.if-self-ways.age ≤ old.used = omega (arith, full, room) in
    let small : c.if-self-ways.age < c.args.ways = omega (arith, full, room) in
    let fresh = opened old.entries.items c.open_place.new.entries.items (c.args.line, c.args.value) old.ages c.open_place.new.ages old.used c.if-self-ways.age is le (omega arith) c.open_place.ensures.kept c.open_place.ensures.more in
    let place : c.place_of_age-place.result ≡ place_of_age c.open_place.new.ages c.if-self-ways.age = c.place_of_age-place.ensures in
    let there = (fresh.row.aged.by_age c.if-self-ways.age fresh.within).0 in
    let raised : IsRaised c.open_place.new.ages (place_of_age c.open_place.new.ages c.if-self-ways.age) c.raise.new.ages = rw (← place) c.raise.ensures in
    rw place
    (added_lines c.open_place.new.entries.items c.open_place.new.ages c.raise.new.ages old.used c.if-self-ways.age c.args.line c.args.value fresh.row fresh.within le raised ∙
    ap (λ es. (c.args.line, record { value = c.args.value; place = place_of_age c.open_place.new.ages c.if-self-ways.age }) ∷ take c.if-self-ways.age es) (fresh.lines ∙ c.self.view_is) ∙
    front_taken (c.args.line, record { value = c.args.value; place = place_of_age c.open_place.new.ages c.if-self-ways.age }) c.args.self.now c.args.ways c.if-self-ways.age some fits
    (λ same. full (omega arith)) (λ other. room (λ same. other (omega arith)) ∙ omega arith))

pub returns-clause-len : goal.returns-clause-len
returns-clause-len g c =
    let old = c.self.inside in
    let is = c.self.invariant.0 in
    let used : length (lines_by_age old.entries.items old.ages old.used) ≡ old.used = length-lines old.entries.items old.ages old.used is.filled in
    let seen : length (lines_by_age old.entries.items old.ages old.used) ≡ length c.args.self.now = ap length c.self.view_is in
    let some = c.requires.some in
    let few = c.requires.few in
    let fits = c.requires.fits in
    let age : ℕ = c.if-self-ways.age in
    let full : old.used ≡ c.args.ways → c.if-self-ways.age ≡ c.args.ways - 1 = λ same. elim c.if-self-ways.branch [ then-self-ways w ↦ w.age-is | else-self-ways w ↦ absurd (w.if-self-ways.false same) ] in
    let room : old.used ≢ c.args.ways → c.if-self-ways.age ≡ old.used = λ other. elim c.if-self-ways.branch [ then-self-ways w ↦ absurd (other w.if-self-ways.true) | else-self-ways w ↦ w.age-is ] in
    let le : c.if-self-ways.age ≤ old.used = omega (arith, full, room) in
    let small : c.if-self-ways.age < c.args.ways = omega (arith, full, room) in
    let fresh = opened old.entries.items c.open_place.new.entries.items (c.args.line, c.args.value) old.ages c.open_place.new.ages old.used c.if-self-ways.age is le (omega arith) c.open_place.ensures.kept c.open_place.ensures.more in
    let place : c.place_of_age-place.result ≡ place_of_age c.open_place.new.ages c.if-self-ways.age = c.place_of_age-place.ensures in
    let there = (fresh.row.aged.by_age c.if-self-ways.age fresh.within).0 in
    let raised : IsRaised c.open_place.new.ages (place_of_age c.open_place.new.ages c.if-self-ways.age) c.raise.new.ages = rw (← place) c.raise.ensures in
    let filled : c.if-self-ways.age + 1 ≤ length (set c.open_place.new.entries.items c.place_of_age-place.result (c.args.line, c.args.value)) = search (rules, fresh.within) in
    let now = length-lines (set c.open_place.new.entries.items c.place_of_age-place.result (c.args.line, c.args.value)) c.raise.new.ages (c.if-self-ways.age + 1) filled in
    omega arith

pub returns-clause-places : goal.returns-clause-places
returns-clause-places g c =
    are_places _ c.raise.new.ages (c.if-self-ways.age + 1) (invariant_of-self g c).0
