-- The due flushes of a rollback.
use Rattle.std.proofs.Common.{sym, ap, subst, ◌∙◌}
use Rattle.rv32_hart.specs.Code.{CodeView}
use Rattle.bloom_sig.specs.Signatures.{Sets}
use Rattle.bloom_sig.specs.Images.{IsSignatureOf, member_count}
use Rattle.bloom_sig.proofs.ImageLemmas.{members_are_counted}
use Rattle.line_memory.specs.Backing.{BackingView, dirty_in}
use Rattle.try_runs.specs.Fills.{Portion, portion_run}
use Rattle.try_runs.specs.Tries.{Try}
use Rattle.portion_ctl.specs.declared.portion.Undone.{Undone}
use Rattle.portion_ctl.specs.Stands.{StandsFor}
use Rattle.portion_ctl.specs.States.{IsUndoneOf}
use Rattle.portion_ctl.specs.Views.{EndedView, FlushingView}
use Rattle.conflict_resolve.specs.Backs.{due_count, Backs}

pub backs : (code : CodeView) (b : BackingView) (c : EndedView) (p : Portion) (undone : Undone) → StandsFor code c.try p
    → IsUndoneOf c (due_count c.try.read_set b) undone → Backs b c (portion_run code c.try.limits.line_bytes p) p undone
backs code b c p undone stands is =
    let t : Try = portion_run code c.try.limits.line_bytes p in
    record {
      core = ap (λ (f : FlushingView). f.core) is.flushing;
      limits = ap (λ (f : FlushingView). f.limits) is.flushing;
      regs = ap (λ (f : FlushingView). f.regs) is.flushing ∙ stands.opening;
      reads = subst (λ (s : Sets). IsSignatureOf s t.reads) (sym (ap (λ (f : FlushingView). f.read_set) is.flushing)) stands.holds.reads;
      due =
          ap (λ (f : FlushingView). f.due) is.flushing ∙ members_are_counted c.try.read_set t.reads (dirty_in b) stands.holds.reads.image
          ∙ ap (λ bits. member_count bits t.reads (dirty_in b)) stands.holds.sizes.reads;
      acts = is.n ∙ stands.acts;
      cause = is.cause;
    }
