-- Calls of streams after calls are calls of streams.
use Rattle.std.proofs.Common.{◌≡◌, Bool, refl, ◌∙◌, subst}
use Rattle.std.specs.Prelude.{Option, Some, None}
use Rattle.conda_host.specs.declared.outside.Role.{Role}
use Rattle.conda_host.specs.State.{HostState, RoleState, IsLater}
use Rattle.conda_host.proofs.Steps.{opened_refl, opened_trans, created_refl, created_trans, later_refl, later_trans, rose_for_all_after}
use Rattle.streams.specs.declared.fault.Fault.{Fault}
use Rattle.streams.specs.declared.fault.Fault.TheVariants.{Read, Write}
use Rattle.streams.specs.declared.sinks.Sinks.{Sinks}
use Rattle.streams.specs.Streaming.{has_sink, StaysMade, IsStreaming, HasFaultCause, IsLed}

pub made_refl : (r : RoleState) → StaysMade r r
made_refl r = record { created = λ h. h; name = refl; opened = opened_refl r }

pub made_trans : {a b c : RoleState} → StaysMade a b → StaysMade b c → StaysMade a c
made_trans p q = record {
  created = λ h. q.created (p.created h);
  name = q.name ∙ p.name;
  opened = opened_trans p.opened q.opened;
}

pub streaming_refl : (source : Role) (sinks : Role → Bool) (s : HostState)
    → IsStreaming source sinks s s
streaming_refl from sinks s = record {
  later = later_refl s;
  files = λ n h. refl;
  roles = λ r h k. refl;
  made = λ r h. made_refl (s.role r);
  read = λ none. created_refl (s.role from);
  opened = λ h. h;
}

pub streaming_trans : {source : Role} {sinks : Role → Bool} {a b c : HostState}
    → IsStreaming source sinks a b → IsStreaming source sinks b c → IsStreaming source sinks a c
streaming_trans p q = record {
  later = later_trans p.later q.later;
  files = λ n h. q.files n (λ r is e. h r is (e ∙ (p.made r is).name)) ∙ p.files n h;
  roles = λ r h k. q.roles r h k ∙ p.roles r h k;
  made = λ r is. made_trans (p.made r is) (q.made r is);
  read = λ none. created_trans (p.read none) (q.read none);
  opened = λ h. q.opened (p.opened h);
}

-- ---- all calls of streams

pub led_refl : (from : Role) (sinks : Sinks) (s : HostState) → IsLed from sinks sinks s s None
led_refl from sinks s = record {
  same = refl;
  streaming = streaming_refl from (has_sink sinks) s;
  cause = tt;
}

cause_after : (from : Role) (sinks : Role → Bool) {a b : HostState} (c : HostState)
    (fault : Option Fault) → IsLater a b
    → HasFaultCause from sinks b c fault → HasFaultCause from sinks a c fault
cause_after from sinks c None later h = tt
cause_after from sinks c (Some (Read role)) later h = (h.0, rose_for_all_after later h.1)
cause_after from sinks c (Some (Write role)) later h = (h.0, rose_for_all_after later h.1)

pub led_trans : {from : Role} {x y z : Sinks} {a b c : HostState} {fault : Option Fault}
    → IsLed from x y a b None → IsLed from y z b c fault → IsLed from x z a c fault
led_trans {from = from} {x = x} {a = a} {b = b} {c = c} {fault = fault} p q = record {
  same = q.same ∙ p.same;
  streaming = streaming_trans p.streaming (subst (λ f. IsStreaming from f b c) p.same q.streaming);
  cause = cause_after from (has_sink x) c fault p.streaming.later
      (subst (λ f. HasFaultCause from f b c fault) p.same q.cause);
}

pub led_by : {from next : Role} {x y z : Sinks} {a b c : HostState} {fault : Option Fault}
    → next ≡ from → IsLed from x y a b None → IsLed next y z b c fault → IsLed from x z a c fault
led_by {y = y} {z = z} {b = b} {c = c} {fault = fault} same p q =
    led_trans p (subst (λ r. IsLed r y z b c fault) same q)
