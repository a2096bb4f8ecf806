use Rattle.std.proofs.Common.{ℕ, List, ap, None}
use Rattle.std.proofs.lemmas.List.{take-replicate}
use Rattle.fallback_lock.specs.Locks.{Counts}
use Rattle.fallback_lock.proofs.lock.Lock.new.Goals as goal

pub returns : goal.returns
returns c =
    let made : List ℕ → Counts = λ backs. record { backs = backs; retries = c.args.retries; locked = None } in
    ap made (take-replicate c.args.cores 4 0 c.requires.few)
