use Rattle.jiter_incremental.proofs.Words.{[], refl, any_bytes}
use Rattle.jiter_incremental.proofs.Between.{none-read}
use Rattle.jiter_incremental.proofs.Documents.{new-arrived}
use Rattle.jiter_incremental.proofs.Settling.{reads-apart}
use Rattle.jiter_incremental.proofs.reader.Reader.new.Goals as goal

pub returns-clause-arrived : goal.returns-clause-arrived
returns-clause-arrived c =
    let h = new-arrived _ refl refl refl refl (refl, tt, refl, tt) none-read in
    record { read = reads-apart any_bytes _ [] h.read refl; position = h.position; full = λ _ _. refl }
