use Rattle.try_runs.proofs.laws.portions_are_serial.Goals as goal
use Rattle.try_runs.proofs.Serial.{serial}

pub returns : goal.returns
returns c = serial
