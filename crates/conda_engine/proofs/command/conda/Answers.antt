use Rattle.conda_engine.proofs.command.conda.Goals as goal

pub returns-in-Some-Run-Conda-default-clause-answers : goal.returns-in-Some-Run-Conda-default-clause-answers
returns-in-Some-Run-Conda-default-clause-answers g c =
    let here = c.in-Some-Run-Conda-default in
    rw (here.ensures.asked, here.field-0-is, here.field-0-0-is) c.run.ensures.answers

pub returns-in-Some-Run-Fine-default-clause-answers : goal.returns-in-Some-Run-Fine-default-clause-answers
returns-in-Some-Run-Fine-default-clause-answers g c =
    let here = c.in-Some-Run-Fine-default in
    rw (here.ensures.asked, here.field-0-is, here.field-0-0-is) c.run-in-Some-Run-Fine-default.ensures.answers

pub returns-in-Some-Asm-clause-headline : goal.returns-in-Some-Asm-clause-headline
returns-in-Some-Asm-clause-headline g c = rw (c.in-Some-Asm.ensures.asked, c.in-Some-Asm.field-0-is) c.asm.ensures.loadable

pub returns-in-Some-Dis-clause-headline : goal.returns-in-Some-Dis-clause-headline
returns-in-Some-Dis-clause-headline g c = rw (c.in-Some-Dis.ensures.asked, c.in-Some-Dis.field-0-is) c.dis.ensures.back
