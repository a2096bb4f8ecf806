use Rattle.run_examples.proofs.runs.names.Goals as goal

pub returns-clause-apart : goal.returns-clause-apart
returns-clause-apart c = record { order_report = λ same. cc; order_output = tt; report_output = tt }
