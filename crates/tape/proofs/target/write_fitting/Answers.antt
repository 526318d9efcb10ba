use Rattle.tape.proofs.Targets.{fitted_room}
use Rattle.tape.proofs.target.write_fitting.Goals as goal

pub returns : goal.returns
returns g c bs h f = fitted_room bs c.args.target.now h (f _ _ _ c.put-size.ensures) c.if-target-size.false (f _ _ _ c.put.ensures)
