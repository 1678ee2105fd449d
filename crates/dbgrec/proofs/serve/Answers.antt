use Rattle.std.proofs.KnownBytes.{Keeps-refl}
use Rattle.std.proofs.lemmas.Result.{err_from_is_err_and}
use Rattle.dbgrec.specs.Serving.{done, unprepared}
use Rattle.dbgrec.proofs.serve.Goals as goal

pub returns-in_err-request : goal.returns-in_err-request
returns-in_err-request g c =
    let p = err_from_is_err_and c.from_residual.result c.from_residual.ensures.1 in
    rw (p.1, p.2) (unprepared _ c.in_err-request.ensures.refused (Keeps-refl _))

pub returns : goal.returns
returns g c = done c.in_ok-request.request c.in_ok-request.ensures.named c.serve_prepared.ensures
