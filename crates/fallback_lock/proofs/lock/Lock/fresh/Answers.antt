use Rattle.std.proofs.Common.{◌<◌, ℕ, List, length, take, ap, sym, subst}
use Rattle.fallback_lock.proofs.LockLemmas.{take-set_in_list}
use Rattle.fallback_lock.specs.Locks.{Counts}
use Rattle.fallback_lock.proofs.lock.Lock.fresh.Goals as goal

pub returns : goal.returns
returns c =
    let HasCore : Counts → Type 0 = λ counts. c.args.core < length counts.backs in
    let within : c.args.core < length (take c.self.inside.cores c.self.inside.backs) =
    subst HasCore (sym c.self.view_is) c.requires in
    let remade : List ℕ → Counts = λ backs. record { backs = backs; retries = c.self.inside.retries; locked = c.self.inside.locked } in
    rw (← c.self.view_is) (ap remade (take-set_in_list c.self.inside.cores c.self.inside.backs c.args.core 0 within))
