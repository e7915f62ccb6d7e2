use Rattle.jiter_incremental.proofs.Words.{subst, sym, ◌+◌, text_view, Tree, view, Steps, Reader, IsPut}
use Rattle.jiter_incremental.specs.declared.reader.Awaits.TheVariants as awaits
use Rattle.jiter_incremental.proofs.Arms.{turned}
use Rattle.jiter_incremental.proofs.Placing.{container-opens}
use Rattle.jiter_incremental.proofs.reader.Reader.open.Goals as goal

pub returns-clause-steps : goal.returns-clause-steps
returns-clause-steps c =
    let i = c.args.self.now in
    let put = subst (λ (x : Tree). IsPut c.args.level (view c.args.slot.now) (text_view i.key) x (view c.put.new.slot))
    c.empty.ensures c.put.ensures.put in
    let v = view c.args.slot.now in
    let w = view c.put.new.slot in
    let opened = λ (r : Reader). record r { depth = r.depth + 1; awaits = awaits.First } in
    subst (λ (r : Reader). Steps c.args.level c.args.chunk.now i v (opened r) w 1) (sym c.put.ensures.is)
    (subst (λ k. Steps c.args.level c.args.chunk.now i v (record (turned i awaits.First (i.depth + 1) c.put.new.self.key) { token = k }) w 1)
    c.requires.token
    (container-opens c.args.level c.args.chunk.now i v c.requires.here c.requires.token
    c.requires.awaited c.requires.other c.args.kind c.put.new.self.key (view c.put.new.slot) c.requires.low
    c.requires.starts put))
