use Rattle.jiter_scan.proofs.Words.{◌≡◌, ◌+◌, ◌-◌, arith}
use Rattle.jiter_scan.proofs.NumberParts.{goes-none, goes_next, held-on}
use Rattle.jiter_scan.proofs.number.partial_number.PartialNumber.more.Goals as goal

pub take-requires-clause-ascii : goal.take-requires-clause-ascii
take-requires-clause-ascii c =
    let t = c.args.chunk.now in
    let at = c.args.at in
    let s = c.args.self.now.stage in
    let got = c.stages_end-after.result in
    let went = goes_next s s c.args.stage got.0 t at at got.1 (goes-none s t at (omega (arith, c.requires.within)))
    c.requires.within c.requires.leads c.requires.fits c.stages_end-after.ensures.goes in
    went.ascii

pub returns-clause-held : goal.returns-clause-held
returns-clause-held c = λ w held.
    let t = c.args.chunk.now in
    let at = c.args.at in
    let d = c.args.self.now in
    let m = c.take.new.self in
    let got = c.stages_end-after.result in
    let e = got.1 in
    let taken = c.in_ok-take.ensures.taken in
    let went = goes_next d.stage d.stage c.args.stage got.0 t at at e
    (goes-none d.stage t at (omega (arith, c.requires.within))) c.requires.within c.requires.leads c.requires.fits
    c.stages_end-after.ensures.goes in
    let end : e ≡ at + (e - at) = omega (arith, went.ahead) in
    rw (← end) (held-on d m w t at e held (rw taken.0 went) taken.1)
