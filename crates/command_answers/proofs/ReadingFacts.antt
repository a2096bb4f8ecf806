-- Steps that open some roles.
use Rattle.std.proofs.Common.{ℕ, List, ◌≡◌, Bool, true, false, sym, ◌∙◌, ap, subst, inl, inr, refl}
use Rattle.chip_config.specs.Settings.{Settings}
use Rattle.conda_host.specs.declared.outside.Role.{Role}
use Rattle.conda_host.specs.declared.outside.Role.TheVariants as role
use Rattle.conda_host.specs.State.{HostState, KeepsCreated, IsReading}
use Rattle.conda_host.proofs.Steps.{created_trans, created_same, later_refl, later_trans}
use Rattle.streams.proofs.StreamFacts.{role_tells}
use Rattle.command_answers.specs.declared.status.Status.{Status}
use Rattle.command_answers.specs.declared.status.Status.TheVariants as status
use Rattle.command_answers.specs.Preparing.{OnlyOpens, IsConfigError, IsLoadError, is_first, unready_opens}

pub opens_one : {opens : Role → Bool} {r : Role} {a b : HostState} → opens r ≡ true → IsReading a b r → OnlyOpens opens a b
opens_one {opens = opens} {r = r} {a = a} {b = b} is p = record {
  later = p.later;
  files = p.files;
  roles = λ q none. p.roles q (λ same. let no : true ≡ false = sym is ∙ ap opens (sym same) ∙ none in cc);
  created = λ q. elim (role_tells r q) [
    | inl h ↦ subst (λ x. KeepsCreated (a.role x) (b.role x)) h.1 p.made
    | inr h ↦ created_same (p.roles q (λ d. h.1 (sym d)))
  ];
}

-- no step opens none
pub opens_none : {opens : Role → Bool} (a : HostState) → OnlyOpens opens a a
opens_none a = record {
  later = later_refl a;
  files = λ n. refl;
  roles = λ r e. refl;
  created = λ r. created_same refl;
}

pub opens_then : {opens : Role → Bool} {a b c : HostState} → OnlyOpens opens a b → OnlyOpens opens b c → OnlyOpens opens a c
opens_then p q = record {
  later = later_trans p.later q.later;
  files = λ n. q.files n ∙ p.files n;
  roles = λ r none. q.roles r none ∙ p.roles r none;
  created = λ r. created_trans (p.created r) (q.created r);
}

-- what is opened where the configuration isn't taken
pub config_unread : {a b : HostState} (name : List ℕ) (answer : Status) → IsConfigError a b name answer → IsReading a b role.Config → OnlyOpens (unready_opens answer) a b
config_unread name (status.ReadFault role.Config) h p = opens_one refl p
config_unread name (status.ReadFault other) h p = absurd (let no : other ≡ role.Config = h.0 in cc)
config_unread name (status.Config f) h p = opens_one refl p
config_unread name (status.TooLarge role.Config limit) h p = opens_one refl p
config_unread name (status.TooLarge other limit) h p = opens_one refl p
config_unread name status.OutOfMemory h p = opens_one refl p
config_unread name other h p = absurd h

pub reads_both : {a b c : HostState} → IsReading a b role.Config → IsReading b c role.Image → OnlyOpens is_first a c
reads_both p q = opens_then (opens_one refl p) (opens_one refl q)

-- and where the image isn't
pub image_unread : {a b c : HostState} (config : Settings) (name : List ℕ) (answer : Status) → IsLoadError config b c name answer → IsReading a b role.Config → IsReading b c role.Image → OnlyOpens (unready_opens answer) a c
image_unread config name (status.ReadFault role.Config) h p q = absurd (let no : role.Config ≡ role.Image = h.0 in cc)
image_unread config name (status.ReadFault other) h p q = reads_both p q
image_unread config name (status.TooLarge role.Config limit) h p q = absurd (let no : role.Config ≡ role.Image = h.0 in cc)
image_unread config name (status.TooLarge other limit) h p q = reads_both p q
image_unread config name (status.Image f) h p q = reads_both p q
image_unread config name status.OutOfMemory h p q = reads_both p q
image_unread config name other h p q = absurd h
