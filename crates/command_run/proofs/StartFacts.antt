-- Files are opened and made.
use Rattle.std.proofs.Common.{◌≡◌, ℕ, List, refl, sym, subst}
use Rattle.std.specs.Prelude.{Option, Some, None, MatchOption}
use Rattle.conda_host.specs.declared.outside.Role.TheVariants as role
use Rattle.conda_host.specs.State.{HostState, IsReading, IsCreating}
use Rattle.streams.specs.Using.{KeepsTo}
use Rattle.streams.proofs.UsingFacts.{keeps_refl, keeps_creating, keeps_reading}
use Rattle.command_run.specs.Names.{Names, text_uses}

pub output_keeps : (names : Names) (a b : HostState) → MatchOption names.output (b ≡ a) (IsCreating a b role.Output) → KeepsTo (text_uses names) a b
output_keeps names a b rest = go names.output refl rest
  where
    go : (o : Option (List ℕ)) → names.output ≡ o → MatchOption o (b ≡ a) (IsCreating a b role.Output) → KeepsTo (text_uses names) a b
    go None e same = subst (KeepsTo (text_uses names) a) (sym same) (keeps_refl (text_uses names) a)
    go (Some name) e p = keeps_creating e p

pub order_keeps : (names : Names) {a b : HostState} → IsCreating a b role.Order names.order → KeepsTo (text_uses names) a b
order_keeps names p = keeps_creating refl p

pub schedule_keeps : (names : Names) {a b : HostState} → IsReading a b role.Schedule → KeepsTo (text_uses names) a b
schedule_keeps names p = keeps_reading refl p
