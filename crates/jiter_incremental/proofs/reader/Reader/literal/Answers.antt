use Rattle.jiter_incremental.proofs.Words.{subst, sym, text_view, Tree, view, Steps, IsPut, slice_index, after_level}
use Rattle.jiter_incremental.specs.declared.reader.Token.TheVariants as token_kind
use Rattle.jiter_incremental.proofs.Arms.{turned}
use Rattle.jiter_incremental.proofs.Separators.{with-separator}
use Rattle.jiter_incremental.proofs.Placing.{scalar-put, word-step}
use Rattle.jiter_incremental.proofs.Documents.Tokens.{literal-begins}
use Rattle.jiter_incremental.specs.declared.names.WordValue.TheVariants as name
use Rattle.jiter_incremental.proofs.Documents.WholeTokens.{literal-scalar}
use Rattle.jiter_incremental.proofs.reader.Reader.literal.Goals as goal

pub returns-in-Some-clause-steps : goal.returns-in-Some-clause-steps
returns-in-Some-clause-steps c =
    let i = c.args.self.now in
    let level = c.args.level in
    let chunk = c.args.chunk.now in
    let v = view c.args.slot.now in
    let w = view c.put.new.slot in
    let e = c.in-Some.end in
    let found = c.in-Some.ensures in
    let put = subst (λ (x : Tree). IsPut level v (text_view i.key) x w) c.literal_value.ensures c.put.ensures.put in
    let key = c.put.new.self.key in
    let q = record (turned i (after_level level) i.depth key) { token = token_kind.Nothing } in
    let all = scalar-put level chunk i v c.requires.here c.requires.token c.requires.awaited c.requires.other key _ w e
    c.requires.low put (literal-scalar chunk i.at c.args.literal e c.requires.starts found.value found.within.0 found.within.1) in
    with-separator level chunk i v q w e c.requires.here all (λ _. (c.requires.here.unset, c.requires.here.here))
    c.put.new.self c.past_separator.new.self c.past_separator.result c.put.ensures.is c.past_separator.ensures

pub returns-in-None-clause-steps : goal.returns-in-None-clause-steps
returns-in-None-clause-steps c =
    let i = c.args.self.now in
    let level = c.args.level in
    let chunk = c.args.chunk.now in
    let v = view c.args.slot.now in
    let word = c.begin_word.new.self.word in
    subst (λ j. Steps level chunk i v j v 1) (sym c.begin_word.ensures.is)
    (word-step level chunk i v c.requires.here c.requires.token c.requires.awaited c.requires.other (name.Literal c.args.literal)
    word c.requires.low c.requires.starts tt (literal-begins (slice_index chunk i.at) c.args.literal c.requires.starts)
    c.begin_word.ensures.word.0 c.begin_word.ensures.word.1)
