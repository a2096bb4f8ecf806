-- The flat part of a report, line by line.
use Rattle.std.proofs.Common.{◌≡◌, ℕ, zero, suc, ◌/◌, ◌%◌, ◌*◌, ◌+◌, ◌-◌, ◌^◌, true, false, ◌||◌, cond, eqb, ltb, List, [], ◌∷◌, ◌++◌, refl, sym, ap, ◌∙◌, subst, arith, append_assoc, map}
use Rattle.std.specs.Prelude.{codes, slice_index}
use Rattle.std.specs.List.{flat_map, list_any}
use Rattle.std.specs.Fmt.{decimal, digits, digits_onto, digit_glyph}
use Rattle.std.proofs.lemmas.List.{append-nil}
use Rattle.std.proofs.lemmas.List.Folds.{list_any-append}
use Rattle.std.proofs.lemmas.Bool.{cond_both, or_from}
use Rattle.conda_base.specs.declared.Line.{Line}
use Rattle.conda_base.specs.declared.Mesi.{Mesi}
use Rattle.conda_base.specs.declared.Mesi.TheVariants.{M, E, S}
use Rattle.conda_base.specs.Digits.{hex_digit, hex_byte, hex_word}
use Rattle.schedule_log.specs.Schedule.{is_feed, ended_lines, last_part}
use Rattle.schedule_log.proofs.ScheduleLemmas.{ended_lines_at, last_part_at}
use Rattle.offload_calls.specs.declared.status.HartStatus.{HartStatus}
use Rattle.offload_calls.specs.declared.status.HartStatus.TheVariants as Hart_is
use Rattle.offload_calls.specs.declared.status.CoreStatus.{CoreStatus}
use Rattle.offload_calls.specs.declared.status.CoreStatus.TheVariants as Core_is
use Rattle.traffic_trace.specs.declared.note.Kind.{Kind}
use Rattle.traffic_trace.specs.declared.note.Kind.TheVariants.{Fill, Back, Down, Drop, Evict, CoreFill, Merge}
use Rattle.traffic_trace.specs.declared.note.Note.{Note}
use Rattle.traffic_trace.specs.Notes.{Trace, total_of}
use Rattle.rv32_hart.specs.declared.regs.Trap.{Trap}
use Rattle.run_report.specs.View.{View, line_bytes_at}
use Rattle.run_report.specs.Texts.{feed, texts_below, head_text, trap_text, hart_status_text, core_status_text, hart_line_text, core_line_text, register_line_text, register_text, registers_text, hart_text, core_text, harts_text, cores_text, actors_text, changed_line_text, changed_text, changes_text, state_text_of, tag_line_text, tag_text, set_text, cache_text, caches_text, kind_text, total_text, totals_line_text, note_line_text, note_text, notes_text, report_text}
use Rattle.run_report.specs.FlatText.{is_left_out, kept_line, kept_rest, flat_part, flat_text_of, ShowAlike, ReportsHaveFlatParts}

-- ---- texts without a line feed

abbrev pub Flat : List ℕ → Type 0
Flat text = list_any is_feed text ≡ false

pub flat-both : (a b : List ℕ) → Flat a → Flat b → Flat (a ++ b)
flat-both a b p q = list_any-append is_feed a b ∙ or_from (list_any is_feed a) (list_any is_feed b) p q

glyph : (d : ℕ) → is_feed (digit_glyph false (d % 10)) ≡ false
glyph d = cond_both (ltb (d % 10) 10) (48 + d % 10) (87 + d % 10) (λ g. is_feed g ≡ false) (λ _. grind arith) (λ _. grind arith)

onto : (k n : ℕ) (acc : List ℕ) → Flat acc → Flat (digits_onto k 10 false n acc)
onto zero n acc h = h
onto (suc k) n acc h =
    let more : Flat (digit_glyph false (n % 10) ∷ acc) = or_from _ _ (glyph n) h in
    cond_both (eqb (n / 10) 0) (digit_glyph false (n % 10) ∷ acc) (digits_onto k 10 false (n / 10) (digit_glyph false (n % 10) ∷ acc)) Flat
    (λ _. more) (λ _. onto k (n / 10) (digit_glyph false (n % 10) ∷ acc) more)

pub flat-decimal : (n : ℕ) → Flat (decimal n)
unfolding digits
flat-decimal n = onto 64 n [] refl

digit : (d : ℕ) → is_feed (hex_digit d) ≡ false
digit d = cond_both (ltb d 10) (48 + d) (97 + (d - 10)) (λ g. is_feed g ≡ false) (λ _. grind arith) (λ _. grind arith)

flat-byte : (n : ℕ) → Flat (hex_byte n)
flat-byte n = or_from _ _ (digit (n / 16)) (or_from _ _ (digit (n % 16)) refl)

flat-bytes : (bytes : List ℕ) → Flat (flat_map hex_byte bytes)
flat-bytes [] = refl
flat-bytes (b ∷ bytes) = flat-both (hex_byte b) (flat_map hex_byte bytes) (flat-byte b) (flat-bytes bytes)

flat-digits : (ds : List ℕ) → Flat (map hex_digit ds)
flat-digits [] = refl
flat-digits (d ∷ ds) = or_from (is_feed (hex_digit d)) (list_any is_feed (map hex_digit ds)) (digit d) (flat-digits ds)

flat-word : (n : ℕ) → Flat (hex_word n)
unfolding hex_word
flat-word n =
    flat-digits
    (n / 2 ^ 28 % 16 ∷ n / 2 ^ 24 % 16 ∷ n / 2 ^ 20 % 16 ∷ n / 2 ^ 16 % 16 ∷ n / 2 ^ 12 % 16 ∷ n / 2 ^ 8 % 16 ∷ n / 2 ^ 4 % 16 ∷ n % 16 ∷ [])

-- pieces laid after a text, one after another
abbrev joined : List ℕ → List (List ℕ) → List ℕ
joined text [] = text
joined text (p ∷ ps) = joined (text ++ p) ps

abbrev AreFlat : List (List ℕ) → Type 0
AreFlat [] = Unit {0}
AreFlat (p ∷ ps) = Flat p × AreFlat ps

flat-joined : (text : List ℕ) (ps : List (List ℕ)) → Flat text → AreFlat ps → Flat (joined text ps)
flat-joined text [] h hs = h
flat-joined text (p ∷ ps) h hs = flat-joined (text ++ p) ps (flat-both text p h hs.0) hs.1

flat-trap : (t : Trap) → Flat (trap_text t)
flat-trap t = flat-joined (codes "trap ") (decimal t.cause ∷ codes " " ∷ hex_word t.value ∷ []) refl (flat-decimal t.cause, (refl, (flat-word t.value, tt)))

flat-hart : (s : HartStatus) → Flat (hart_status_text s)
flat-hart Hart_is.Run = refl
flat-hart (Hart_is.Exit value) = flat-both (codes "exit ") (hex_word value) refl (flat-word value)
flat-hart (Hart_is.Trapped trap) = flat-trap trap

flat-core : (s : CoreStatus) → Flat (core_status_text s)
flat-core Core_is.Idle = refl
flat-core Core_is.Run = refl
flat-core (Core_is.Done value) = flat-both (codes "done ") (hex_word value) refl (flat-word value)
flat-core (Core_is.Trapped trap) = flat-trap trap

flat-state : (s : Mesi) → Flat (state_text_of s)
flat-state M = refl
flat-state E = refl
flat-state S = refl

flat-kind : (k : Kind) → Flat (kind_text k)
flat-kind Fill = refl
flat-kind Back = refl
flat-kind Down = refl
flat-kind Drop = refl
flat-kind Evict = refl
flat-kind CoreFill = refl
flat-kind Merge = refl

flat-total : (t : Trace) (k : Kind) → Flat (total_text t k)
flat-total t k = flat-joined (codes " ") (kind_text k ∷ codes " " ∷ decimal (total_of t k) ∷ []) refl (flat-kind k, (refl, (flat-decimal (total_of t k), tt)))

-- ---- whatever follows, the flat part of a text

abbrev Parts : List ℕ → List ℕ → Type 0
Parts text part = (rest : List ℕ) → flat_part (text ++ rest) ≡ part ++ flat_part rest

-- it is kept whole
abbrev Stays : List ℕ → Type 0
Stays text = Parts text text

parts-none : Parts [] []
parts-none rest = refl

parts-both : (a b c d : List ℕ) → Parts a c → Parts b d → Parts (a ++ b) (c ++ d)
parts-both a b c d p q rest =
    ap flat_part (append_assoc a b rest) ∙ p (b ++ rest) ∙ ap (λ t. c ++ t) (q rest) ∙ sym (append_assoc c d (flat_part rest))

parts-line : (line : List ℕ) → Flat line → Parts (line ++ feed) (kept_line line)
unfolding flat_part
parts-line line none rest =
    ap flat_part (append_assoc line feed rest)
    ∙ ap (λ ls. flat_map kept_line ls ++ kept_rest (last_part (line ++ 10 ∷ rest))) (ended_lines_at line rest none)
    ∙ ap (λ p. (kept_line line ++ flat_map kept_line (ended_lines rest)) ++ kept_rest p) (last_part_at line rest)
    ∙ append_assoc (kept_line line) (flat_map kept_line (ended_lines rest)) (kept_rest (last_part rest))

stays-line : (text : List ℕ) (ps : List (List ℕ)) → Flat text → AreFlat ps → is_left_out (joined text ps) ≡ false → Stays (joined text ps ++ feed)
unfolding kept_line
stays-line text ps first flat out =
    let line : List ℕ = joined text ps in
    subst (Parts (line ++ feed)) (ap (λ b. cond b [] (line ++ feed)) out) (parts-line line (flat-joined text ps first flat))

goes-line : (text : List ℕ) (ps : List (List ℕ)) → Flat text → AreFlat ps → is_left_out (joined text ps) ≡ true → Parts (joined text ps ++ feed) []
unfolding kept_line
goes-line text ps first flat out =
    let line : List ℕ = joined text ps in
    subst (Parts (line ++ feed)) (ap (λ b. cond b [] (line ++ feed)) out) (parts-line line (flat-joined text ps first flat))

stays-below : (text : ℕ → List ℕ) → ((k : ℕ) → Stays (text k)) → (n : ℕ) → Stays (texts_below text n)
unfolding texts_below
stays-below text each zero = parts-none
stays-below text each (suc n) = parts-both (texts_below text n) (text n) (texts_below text n) (text n) (stays-below text each n) (each n)

goes-below : (text : ℕ → List ℕ) → ((k : ℕ) → Parts (text k) []) → (n : ℕ) → Parts (texts_below text n) []
unfolding texts_below
goes-below text each zero = parts-none
goes-below text each (suc n) = parts-both (texts_below text n) (text n) [] [] (goes-below text each n) (each n)

goes-all : {A : Type 0} (text : A → List ℕ) → ((x : A) → Parts (text x) []) → (xs : List A) → Parts (flat_map text xs) []
goes-all text each [] = parts-none
goes-all text each (x ∷ xs) = parts-both (text x) (flat_map text xs) [] [] (each x) (goes-all text each xs)

-- ---- the lines of a report

head : (events out : ℕ) → Stays (head_text events out)
unfolding head_text
head events out =
    let first : List ℕ = codes "events " ++ decimal events ++ feed in
    let second : List ℕ = codes "output " ++ decimal out ++ feed in
    let same : first ++ codes "output " ++ decimal out ++ feed ≡ first ++ second =
    ap (λ t. t ++ feed) (append_assoc first (codes "output ") (decimal out)) ∙ append_assoc first (codes "output " ++ decimal out) feed in
    subst (λ t. Parts t t) (sym same)
    (parts-both first second first second
    (stays-line (codes "events ") (decimal events ∷ []) refl (flat-decimal events, tt) refl)
    (stays-line (codes "output ") (decimal out ∷ []) refl (flat-decimal out, tt) refl))

hart_line : (n : ℕ) (s : HartStatus) (pc : ℕ) → Stays (hart_line_text n s pc)
unfolding hart_line_text
hart_line n s pc =
    stays-line (codes "hart ") (decimal n ∷ codes " " ∷ hart_status_text s ∷ codes " pc " ∷ hex_word pc ∷ [])
    refl (flat-decimal n, (refl, (flat-hart s, (refl, (flat-word pc, tt))))) refl

core_line : (n : ℕ) (s : CoreStatus) (pc : ℕ) → Stays (core_line_text n s pc)
unfolding core_line_text
core_line n s pc =
    stays-line (codes "core ") (decimal n ∷ codes " " ∷ core_status_text s ∷ codes " pc " ∷ hex_word pc ∷ [])
    refl (flat-decimal n, (refl, (flat-core s, (refl, (flat-word pc, tt))))) refl

register : (x : List ℕ) (n : ℕ) → Stays (register_text x n)
unfolding register_text register_line_text
register x n =
    cond_both (eqb n 0 || eqb (slice_index x n) 0) [] (register_line_text n (slice_index x n)) Stays
    (λ _. parts-none)
    (λ _. stays-line (codes "x") (decimal n ∷ codes " " ∷ hex_word (slice_index x n) ∷ []) refl (flat-decimal n, (refl, (flat-word (slice_index x n), tt))) refl)

registers : (x : List ℕ) → Stays (registers_text x)
unfolding registers_text
registers x = stays-below (register_text x) (register x) 32

hart : (v : View) (i : ℕ) → Stays (hart_text v i)
unfolding hart_text
hart v i = parts-both _ _ _ _ (hart_line i (v.hart i).status (v.hart i).regs.pc) (registers (v.hart i).regs.x)

core : (v : View) (i : ℕ) → Stays (core_text v i)
unfolding core_text
core v i = parts-both _ _ _ _ (core_line i (v.core i).status (v.core i).regs.pc) (registers (v.core i).regs.x)

actors : (v : View) → Stays (actors_text v)
unfolding harts_text cores_text
actors v = parts-both _ _ _ _ (stays-below (hart_text v) (hart v) v.harts) (stays-below (core_text v) (core v) v.cores)

changed : (v : View) (l : ℕ) → Stays (changed_text v l)
unfolding changed_text changed_line_text
changed v l =
    cond_both _ [] (changed_line_text (l * v.line_bytes) (line_bytes_at v v.memory l)) Stays
    (λ _. parts-none)
    (λ _. stays-line (codes "line ") (hex_word (l * v.line_bytes) ∷ codes " " ∷ flat_map hex_byte (line_bytes_at v v.memory l) ∷ [])
    refl (flat-word (l * v.line_bytes), (refl, (flat-bytes (line_bytes_at v v.memory l), tt))) refl)

changes : (v : View) → Stays (changes_text v)
unfolding changes_text
changes v = stays-below _ (λ place. changed v (v.base / v.line_bytes + place)) _

tag : (v : View) (i : ℕ) (t : Line × Mesi) → Parts (tag_text v i t) []
unfolding tag_line_text
tag v i t =
    goes-line (codes "tag ") (decimal i ∷ codes " " ∷ hex_word (t.0.0 * v.line_bytes) ∷ codes " " ∷ state_text_of t.1 ∷ [])
    refl (flat-decimal i, (refl, (flat-word (t.0.0 * v.line_bytes), (refl, (flat-state t.1, tt))))) refl

caches : (v : View) → Parts (caches_text v) []
unfolding caches_text cache_text set_text
caches v = goes-below (cache_text v) (λ i. goes-below (set_text v i) (λ set. goes-all (tag_text v i) (tag v i) (v.tags i set)) v.sets) v.harts

totals : (t : Trace) → Parts (totals_line_text t) []
unfolding totals_line_text
totals t =
    goes-line (codes "traffic")
    (total_text t Fill ∷ total_text t Back ∷ total_text t Down ∷ total_text t Drop ∷ total_text t Evict
    ∷ total_text t CoreFill ∷ total_text t Merge ∷ [])
    refl
    (flat-total t Fill, (flat-total t Back, (flat-total t Down, (flat-total t Drop, (flat-total t Evict, (flat-total t CoreFill, (flat-total t Merge, tt)))))))
    refl

note : (v : View) (n : Note) → Parts (note_text v n) []
unfolding note_line_text
note v n =
    goes-line (codes "note ") (kind_text n.kind ∷ codes " " ∷ decimal n.who ∷ codes " " ∷ hex_word (n.line.0 * v.line_bytes) ∷ [])
    refl (flat-kind n.kind, (refl, (flat-decimal n.who, (refl, (flat-word (n.line.0 * v.line_bytes), tt))))) refl

notes : (v : View) → Parts (notes_text v) []
unfolding notes_text
notes v = goes-all (note_text v) (note v) v.trace.notes

-- ---- the report

whole : (v : View) (events out : ℕ) → Parts (report_text v events out) (head_text events out ++ ((actors_text v ++ changes_text v) ++ []))
whole v events out =
    parts-both _ _ _ _ (head events out)
    (parts-both _ _ (actors_text v ++ changes_text v) []
    (parts-both _ _ (actors_text v) (changes_text v) (actors v) (parts-both _ _ [] (changes_text v) (caches v) (changes v)))
    (parts-both _ _ [] [] (totals v.trace) (notes v)))

-- the fields that the flat text reads
alike : (v u : View) → ShowAlike v u → (events out : ℕ) → flat_text_of v events out ≡ flat_text_of u events out
unfolding harts_text cores_text hart_text core_text changes_text changed_text
alike v u s events out =
    λ i. flat_text_of
    (record {
      harts = s.harts i;
      cores = s.cores i;
      hart = s.hart i;
      core = s.core i;
      base = s.base i;
      line_bytes = s.line_bytes i;
      memory = s.memory i;
      loaded = s.loaded i;
      sets = v.sets;
      tags = v.tags;
      trace = v.trace;
    }) events out

none_left : flat_part [] ≡ []
unfolding flat_part kept_rest
none_left = refl

pub report-flat : ReportsHaveFlatParts
report-flat v u events out s =
    ap flat_part (sym (append-nil (report_text v events out)))
    ∙ whole v events out []
    ∙ ap (λ t. (head_text events out ++ ((actors_text v ++ changes_text v) ++ [])) ++ t) none_left
    ∙ append-nil _
    ∙ ap (λ t. head_text events out ++ t) (append-nil (actors_text v ++ changes_text v))
    ∙ sym (append_assoc (head_text events out) (actors_text v) (changes_text v))
    ∙ alike v u s events out
