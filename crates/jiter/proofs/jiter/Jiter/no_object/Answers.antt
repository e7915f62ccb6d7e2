use Rattle.jiter.proofs.Words.{◌≡◌, Result, Err, None, refl, err_from_is_err_and, whole, key_bytes, JiterError}
use Rattle.jiter.proofs.ReadLaws.{error-seen, no-object, read-never}
use Rattle.jiter.proofs.jiter.Jiter.no_object.Goals as goal

same-error : {X : Type 0} {d e : JiterError} → ◌≡◌ {A = Result X JiterError} (Err d) (Err e) → d ≡ e
same-error h = cc

pub returns-in_err-self-inside : goal.returns-in_err-self-inside
returns-in_err-self-inside c =
    let e = err_from_is_err_and c.from_residual.result c.from_residual.ensures.1 in
    let stops = no-object {X = Unit {0}} {view = λ _. None} whole c.stop_at.result c.requires.other c.stop_at.ensures in
    let read = read-never _ (error-seen key_bytes stops) in
    rw (e.1, e.2, ← same-error c.in_err-self-inside.was)
    ((refl, (λ _. tt), read), record { reads = (_, read); colon = tt; after = tt })
