use Rattle.streams.proofs.UsingFacts.{keeps_refl, keeps_trans, keeps_reading, keeps_creating, keeps_writing, keeps_streaming}
use Rattle.streams.proofs.laws.steps_keep_to_uses.Goals as goal

pub returns : goal.returns
returns c = λ u. record {
  nothing = keeps_refl u;
  after = λ a b d p q. keeps_trans p q;
  reading = λ r a b is p. keeps_reading is p;
  creating = λ r n a b is p. keeps_creating is p;
  writing = λ r a b named there p. keeps_writing named there p;
  streaming = λ source sinks a b is used p. keeps_streaming is used.named used.none p;
}
