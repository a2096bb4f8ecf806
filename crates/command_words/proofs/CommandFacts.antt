-- What the options of a command ask for.
use Rattle.std.proofs.Common.{◌≡◌, ◌≤◌, ℕ, ◌-◌, ◌^◌, List, [], ◌∷◌, true, false, refl, ◌∙◌, ap, subst, ◌&&◌}
use Rattle.std.specs.Prelude.{◌≢◌, if◌then◌else◌, Bool, Option, Some, None, IfSome, MatchOption, codes}
use Rattle.std.specs.List.{list_all}
use Rattle.std.specs.Str.{bytes_eq}
use Rattle.std.proofs.lemmas.Option.{cond_some}
use Rattle.schedule_log.specs.Verdict.{most_events}
use Rattle.command_words.specs.declared.table.Kind.TheVariants as kind
use Rattle.command_words.specs.declared.command.Command.{Command}
use Rattle.command_words.specs.declared.command.Mode.TheVariants as mode
use Rattle.command_words.specs.Options.{Given, Known, are_different, are_options, file_values, fits, has_place, is_option, one_number, options_of, given_pair, suits, values_of}
use Rattle.command_words.specs.Words.{AreApart, Asked, Run, SelfRun, Asm, Dis, HasAllowedValues, asked, asked_with, command_named, files_in, free_file, needed_file, needed_number, amount_in, name_in, program_files_in, program_options, run_options, self_options, self_run_in, where_allowed}
use Rattle.command_words.proofs.ValueFacts.{in_range, apart_free, apart_needed, both, no_number, of_kind, one_number_is}

-- ---- what a table allows

pub unknown : (table : List Known) (options : List Given) (a : Asked)
    → (list_all (is_option table) options && are_different (file_values table options)) ≡ false → where_allowed table options a ≡ None
unknown table options a h = go (list_all (is_option table) options) refl (list_all (has_place options) table) refl
  where
    go : (k : Bool) → list_all (is_option table) options ≡ k → (p : Bool) → list_all (has_place options) table ≡ p → where_allowed table options a ≡ None
    go false e p ep = rw e refl
    go true e false ep = rw e (rw ep refl)
    go true e true ep = let no : are_different (file_values table options) ≡ false = rw e at h in rw e (rw ep (rw no refl))

pub unplaced : (table : List Known) (options : List Given) (a : Asked) → list_all (has_place options) table ≡ false → where_allowed table options a ≡ None
unplaced table options a h = go (list_all (is_option table) options) refl
  where
    go : (k : Bool) → list_all (is_option table) options ≡ k → where_allowed table options a ≡ None
    go false e = rw e refl
    go true e = rw e (rw h refl)

pub allowed : (table : List Known) (options : List Given)
    → (list_all (is_option table) options && are_different (file_values table options)) ≡ true → list_all (has_place options) table ≡ true → are_options table options ≡ true
allowed table options h place =
    let parts = both (list_all (is_option table) options) (are_different (file_values table options)) h in
    rw parts.0 (rw place parts.1)

pub asked_where : (table : List Known) (options : List Given) (a : Asked) → are_options table options ≡ true → where_allowed table options a ≡ Some a
asked_where table options a h = rw h refl

-- what a table that allows options says of them
pub record IsAllowed (table : List Known) (options : List Given) : Type 0 where
  pub known : list_all (is_option table) options ≡ true
  pub placed : list_all (has_place options) table ≡ true
  pub different : are_different (file_values table options) ≡ true

pub is_allowed : (table : List Known) (options : List Given) → are_options table options ≡ true → IsAllowed table options
is_allowed table options h =
    let whole = both (list_all (is_option table) options && list_all (has_place options) table) (are_different (file_values table options)) h in
    let front = both (list_all (is_option table) options) (list_all (has_place options) table) whole.0 in
    record { known = front.0; placed = front.1; different = whole.1 }

-- ---- `self`

seed_kind : (value : List ℕ) → is_option self_options (given_pair (codes "--seed") value) ≡ true → fits (kind.Number 0 (2 ^ 64 - 1)) value ≡ true
seed_kind value h = go (fits (kind.Number 0 (2 ^ 64 - 1)) value) refl
  where
    go : (t : Bool) → fits (kind.Number 0 (2 ^ 64 - 1)) value ≡ t → t ≡ true
    go true e = refl
    go false e = let no : false ≡ true = rw e at h in no

events_kind : (value : List ℕ) → is_option self_options (given_pair (codes "--events") value) ≡ true → fits (kind.Number 1 most_events) value ≡ true
events_kind value h = go (fits (kind.Number 1 most_events) value) refl
  where
    go : (t : Bool) → fits (kind.Number 1 most_events) value ≡ t → t ≡ true
    go true e = refl
    go false e = let no : false ≡ true = rw e at h in no

known_part : (table : List Known) (options : List Given) → (list_all (is_option table) options && are_different (file_values table options)) ≡ true → list_all (is_option table) options ≡ true
known_part table options h = (both (list_all (is_option table) options) (are_different (file_values table options)) h).0

pub no_seed : (options : List Given) (a : Asked) → (list_all (is_option self_options) options && are_different (file_values self_options options)) ≡ true
    → one_number 0 (2 ^ 64 - 1) (values_of (codes "--seed") options) ≡ None → where_allowed self_options options a ≡ None
no_seed options a h none =
    let fit = of_kind self_options (codes "--seed") (kind.Number 0 (2 ^ 64 - 1)) seed_kind options (known_part self_options options h) in
    let out = no_number 0 (2 ^ 64 - 1) (values_of (codes "--seed") options) fit none in
    unplaced self_options options a (rw out refl)

pub no_events : (options : List Given) (a : Asked) → (list_all (is_option self_options) options && are_different (file_values self_options options)) ≡ true
    → one_number 1 most_events (values_of (codes "--events") options) ≡ None → where_allowed self_options options a ≡ None
no_events options a h none =
    let fit = of_kind self_options (codes "--events") (kind.Number 1 most_events) events_kind options (known_part self_options options h) in
    let out = no_number 1 most_events (values_of (codes "--events") options) fit none in
    unplaced self_options options a (second (suits true (values_of (codes "--seed") options)) refl out)
  where
    second : (t : Bool) → suits true (values_of (codes "--seed") options) ≡ t → suits true (values_of (codes "--events") options) ≡ false → list_all (has_place options) self_options ≡ false
    second true e out = rw e (rw out refl)
    second false e out = rw e refl

pub self_asked : (options : List Given) (seed events : ℕ) (report : List ℕ) → (list_all (is_option self_options) options && are_different (file_values self_options options)) ≡ true
    → one_number 0 (2 ^ 64 - 1) (values_of (codes "--seed") options) ≡ Some seed → one_number 1 most_events (values_of (codes "--events") options) ≡ Some events
    → values_of (codes "--report") options ≡ report ∷ [] → where_allowed self_options options (self_run_in options) ≡ Some (SelfRun seed events report)
self_asked options seed events report h hs he hr =
    let s = one_number_is 0 (2 ^ 64 - 1) seed (values_of (codes "--seed") options) hs in
    let e = one_number_is 1 most_events events (values_of (codes "--events") options) he in
    let place : list_all (has_place options) self_options ≡ true = rw s.only (rw e.only (rw hr refl)) in
    let asked : where_allowed self_options options (self_run_in options) ≡ Some (self_run_in options) = asked_where self_options options (self_run_in options) (allowed self_options options h place) in
    let same : self_run_in options ≡ SelfRun seed events report = rw s.only (rw e.only (rw hr (rw s.is.number (rw e.is.number refl)))) in
    asked ∙ ap Some same

-- ---- what follows

-- one option of a table and those behind it, where all have their places
placed_parts : (options : List Given) (first : Known) (table : List Known) → list_all (has_place options) (first ∷ table) ≡ true
    → (suits first.is_needed (values_of first.name options) ≡ true) × (list_all (has_place options) table ≡ true)
placed_parts options first table h = both (suits first.is_needed (values_of first.name options)) (list_all (has_place options) table) h

pub apart_of_run : (options : List Given) → are_options run_options options ≡ true → AreApart (files_in options)
apart_of_run options h =
    let is = is_allowed run_options options h in
    let from_config = placed_parts options (needed_file (codes "--config")) behind_config is.placed in
    let from_image = placed_parts options (needed_file (codes "--image")) behind_image from_config.1 in
    let from_schedule = placed_parts options (needed_file (codes "--schedule")) behind_schedule from_image.1 in
    let from_order = placed_parts options (needed_file (codes "--order")) behind_order from_schedule.1 in
    let from_report = placed_parts options (needed_file (codes "--report")) behind_report from_order.1 in
    let from_output = placed_parts options (free_file (codes "--output")) [] from_report.1 in
    record {
      order_report = apart_needed run_options (codes "--order") (codes "--report") refl refl refl options from_order.0 from_report.0 is.different;
      order_output = apart_free run_options (codes "--order") (codes "--output") refl refl refl options from_order.0 from_output.0 is.different;
      report_output = apart_free run_options (codes "--report") (codes "--output") refl refl refl options from_report.0 from_output.0 is.different;
    }
  where
    behind_report : List Known
    behind_report = free_file (codes "--output") ∷ []

    behind_order : List Known
    behind_order = needed_file (codes "--report") ∷ behind_report

    behind_schedule : List Known
    behind_schedule = needed_file (codes "--order") ∷ behind_order

    behind_image : List Known
    behind_image = needed_file (codes "--schedule") ∷ behind_schedule

    behind_config : List Known
    behind_config = needed_file (codes "--image") ∷ behind_image

pub apart_of_program : (options : List Given) → are_options program_options options ≡ true → name_in (codes "--source") options ≢ name_in (codes "--program") options
apart_of_program options h =
    let is = is_allowed program_options options h in
    let from_source = placed_parts options (needed_file (codes "--source")) (needed_file (codes "--program") ∷ []) is.placed in
    let from_program = placed_parts options (needed_file (codes "--program")) [] from_source.1 in
    apart_needed program_options (codes "--source") (codes "--program") refl refl refl options from_source.0 from_program.0 is.different

pub events_of_self : (options : List Given) → are_options self_options options ≡ true → (1 ≤ amount_in (codes "--events") options) × (amount_in (codes "--events") options ≤ most_events)
events_of_self options h =
    let is = is_allowed self_options options h in
    let from_seed = placed_parts options (needed_number (codes "--seed") 0 (2 ^ 64 - 1)) (needed_number (codes "--events") 1 most_events ∷ needed_file (codes "--report") ∷ []) is.placed in
    let from_events = placed_parts options (needed_number (codes "--events") 1 most_events) (needed_file (codes "--report") ∷ []) from_seed.1 in
    let fit = of_kind self_options (codes "--events") (kind.Number 1 most_events) events_kind options is.known in
    in_range 1 most_events (values_of (codes "--events") options) from_events.0 fit

-- what is asked is sound
sound_where : (table : List Known) (options : List Given) (a b : Asked) → (are_options table options ≡ true → HasAllowedValues a) → where_allowed table options a ≡ Some b → HasAllowedValues b
sound_where table options a b sound h =
    let taken = cond_some (are_options table options) a b h in
    subst HasAllowedValues taken.1 (sound taken.0)

-- What is left of the choice by name, from each name on.
abbrev from_dis : List ℕ → List Given → Option Asked
from_dis name options = if bytes_eq name (codes "dis") then where_allowed program_options options (Dis (program_files_in options)) else None

abbrev from_asm : List ℕ → List Given → Option Asked
from_asm name options =
    if bytes_eq name (codes "asm") then where_allowed program_options options (Asm (program_files_in options)) else from_dis name options

abbrev from_self : List ℕ → List Given → Option Asked
from_self name options =
    if bytes_eq name (codes "self") then where_allowed self_options options (self_run_in options) else from_asm name options

abbrev from_fine : List ℕ → List Given → Option Asked
from_fine name options =
    if bytes_eq name (codes "fine") then where_allowed run_options options (Run mode.Fine (files_in options)) else from_self name options

-- what a choice gives is allowed, where both ways give what is
either : (t : Bool) (table : List Known) (options : List Given) (a b : Asked) (rest : Option Asked)
    → (are_options table options ≡ true → HasAllowedValues a) → (rest ≡ Some b → HasAllowedValues b)
    → (if t then where_allowed table options a else rest) ≡ Some b → HasAllowedValues b
either true table options a b rest one other h = sound_where table options a b one h
either false table options a b rest one other h = other h

sound_by : (name : List ℕ) (options : List Given) (a : Asked) → asked_with name options ≡ Some a → HasAllowedValues a
sound_by name options a =
    either (bytes_eq name (codes "run")) run_options options (Run mode.Conda (files_in options)) a (from_fine name options) (apart_of_run options)
    (either (bytes_eq name (codes "fine")) run_options options (Run mode.Fine (files_in options)) a (from_self name options) (apart_of_run options)
    (either (bytes_eq name (codes "self")) self_options options (self_run_in options) a (from_asm name options) (events_of_self options)
    (either (bytes_eq name (codes "asm")) program_options options (Asm (program_files_in options)) a (from_dis name options) (apart_of_program options)
    (either (bytes_eq name (codes "dis")) program_options options (Dis (program_files_in options)) a None (apart_of_program options) (λ h. absurd_none a h)))))
  where
    absurd_none : (a : Asked) → None ≡ Some a → HasAllowedValues a
    absurd_none a h = cc

pub sound : (words : List (List ℕ)) (a : Asked) → asked words ≡ Some a → HasAllowedValues a
sound [] a h = cc
sound (name ∷ words) a h = sound_by name (options_of words) a h

pub sound_result : (name : List ℕ) (words : List (List ℕ)) (r : Option Command) → (let a = asked_with name (options_of words) in MatchOption r (a ≡ None) (λ c. a ≡ Some (command_named c)))
    → IfSome r (λ c. HasAllowedValues (command_named c))
sound_result name words None h = tt
sound_result name words (Some c) h = sound_by name (options_of words) (command_named c) h
