-- Walks whose calls all succeeded.
use Rattle.std.proofs.Common.{◌≡◌, ◌∙◌, ◌+◌, ◌-◌, ◌≤◌, ℕ, suc, Bool, true, false, List, refl, sym, ap, subst, arith}
use Rattle.std.specs.Prelude.{Option, Some, None, if◌then◌else◌, option_map}
use Rattle.std.specs.Str.{bytes_eq}
use Rattle.jiter_steps.specs.Literal.{start_of}
use Rattle.jiter_steps.specs.StringReading.{raw, whole}
use Rattle.jiter_steps.specs.declared.parse.Start.{Start}
use Rattle.jiter.specs.Jiter.{MovesOn, key_bytes, reply_seen}
use Rattle.jiter.specs.Reader.{ReaderState, Reply, array_read, gave, if_byte, item_step, key_step, next, object_read}
use Rattle.jiter.specs.Reader.{peek}
use Rattle.jiter.specs.Reader.{skip_read, value_place, with_position}
use Rattle.jiter.proofs.Walking.{moves-on}
use Rattle.jiter_steps.proofs.Grammar.Sound.{object-byte}
use Rattle.jiter_c.specs.Parts.{FindsItem, MembersPassed, PartsPassed, first_part, into_read, next_part}
use Rattle.jiter_c.specs.Replies.{has_part}
use Rattle.jiter_c.proofs.Into.{peek-into, peeked-byte}
use Rattle.jiter_c.proofs.Walks.{IsBracket}

-- The same first part before a peek.
module _ (s s1 : ReaderState) (c : ℕ) (told : peek s ≡ gave c s1.position) (m : MovesOn s s1)
    (place : s1.position ≡ value_place s) where
  abbrev i : ℕ
  i = value_place s

  unpeeked : {A : Type 0} (read : ℕ → Start → Reply A) → next s read ≡ read i (start_of c)
  unpeeked read = ap (λ o. if_byte i o (λ b. read i (start_of b))) (peeked-byte s c s1.position told)

  array-into : (b : Start) → (b ≡ Start.Object → ⊥) → reply_seen has_part (array_read s i b) ≡ into_read s i b
  array-into Start.Object other = absurd (other refl)
  array-into b other = refl

  pub first-again : (object : Bool) → IsBracket c object → first_part object s1 ≡ first_part object s
  first-again true is =
      peek-into s s1 c true told m place is ∙ unpeeked (into_read s) ∙ ap (λ b. into_read s i (start_of b)) is
      ∙ sym (ap (reply_seen has_part) (unpeeked (object_read raw s) ∙ ap (λ b. object_read raw s i (start_of b)) is))
  first-again false is =
      peek-into s s1 c false told m place is ∙ unpeeked (into_read s)
      ∙ sym (ap (reply_seen has_part) (unpeeked (array_read s)) ∙ array-into (start_of c) (λ b. is (object-byte c b)))

-- One more part.
module _ (s0 s s1 s2 : ReaderState) (m : MovesOn s0 s) (m1 : MovesOn s s1)
    (passed : next s (skip_read s) ≡ gave tt s1.position) where
  skipped : next (with_position s0 s.position) (skip_read (with_position s0 s.position)) ≡ gave tt s1.position
  skipped = subst (λ (v : ReaderState). next v (skip_read v) ≡ gave tt s1.position) m.same passed

  there : s1 ≡ with_position s0 s1.position
  there = (moves-on s0 s s1 m m1).same

  pub part-passed : (object more : Bool) (k n : ℕ) → PartsPassed object s0 true k s.position
      → next_part object s1 ≡ gave more s2.position → n ≡ k + 1 → PartsPassed object s0 more n s2.position
  part-passed object more k n h given is =
      let next_one : suc k ≡ n = omega (arith, is) in
      subst (λ x. PartsPassed object s0 more x s2.position) next_one
      (PartsPassed.past k s.position s1.position s2.position more h skipped
      (subst (λ (v : ReaderState). next_part object v ≡ gave more s2.position) there given))

  pub member-passed : (name : List ℕ) (same : Bool) (place : Option ℕ) (start : ℕ) (following : Option (List ℕ))
      → (key : Option (List ℕ)) → option_map (λ k. bytes_eq k name) key ≡ Some same
      → MembersPassed name s0 key place s.position → start ≡ value_place s
      → reply_seen key_bytes (key_step whole s1) ≡ gave following s2.position
      → MembersPassed name s0 following (if same then Some start else place) s2.position
  member-passed name same place start following None is h at given = absurd (cc)
  member-passed name same place start following (Some k) is h at given =
      let same_key : bytes_eq k name ≡ same = cc in
      let begun : value_place (with_position s0 s.position) ≡ start =
      sym (at ∙ ap (λ (v : ReaderState). value_place v) m.same) in
      subst (λ b. MembersPassed name s0 following (if b then Some start else place) s2.position) same_key
      (subst (λ v. MembersPassed name s0 following (if bytes_eq k name then Some v else place) s2.position) begun
      (MembersPassed.past k place following s.position s1.position s2.position h skipped
      (subst (λ (v : ReaderState). reply_seen key_bytes (key_step whole v) ≡ gave following s2.position) there given)))

-- The walk through the items: those before the one that is wanted.
abbrev pub ItemsPassed : ReaderState → ReaderState → Bool → ℕ → ℕ → Type 0
ItemsPassed s0 s more number before = (before ≤ number) × PartsPassed false s0 more (number - before) s.position

pub items-passed : (s0 s : ReaderState) (o : Option ℕ) (number : ℕ)
    → next s0 (array_read s0) ≡ gave o s.position → ItemsPassed s0 s (has_part o) number number
items-passed s0 s o number given =
    let none : 0 ≡ number - number = omega arith in (
      omega arith,
      subst (λ k. PartsPassed false s0 (has_part o) k s.position) none
          (PartsPassed.first (has_part o) s.position (ap (reply_seen has_part) given)),
    )

pub item-passed : (s0 s s1 s2 : ReaderState) (o : Option ℕ) (number before fewer : ℕ) → MovesOn s0 s → MovesOn s s1
    → next s (skip_read s) ≡ gave tt s1.position → ItemsPassed s0 s true number before
    → item_step s1 ≡ gave o s2.position → before ≡ suc fewer → ItemsPassed s0 s2 (has_part o) number fewer
item-passed s0 s s1 s2 o number before fewer m m1 passed h given is = (
  omega (arith, h.0, is),
  part-passed s0 s s1 s2 m m1 passed false (has_part o) (number - before) (number - fewer) h.1
      (ap (reply_seen has_part) given) (omega (arith, h.0, is)),
)

pub item-missing : (s0 s : ReaderState) (number before : ℕ) → ItemsPassed s0 s false number before
    → FindsItem s0 number false s.position
item-missing s0 s number before h = (number - before, omega arith, h.1)

pub item-reached : (s0 s s1 : ReaderState) (c number : ℕ) → MovesOn s0 s → ItemsPassed s0 s true number 0
    → peek s ≡ gave c s1.position → FindsItem s0 number true s1.position
item-reached s0 s s1 c number m h told =
    let all : number - 0 ≡ number = omega arith in (
      s.position,
      c,
      subst (λ k. PartsPassed false s0 true k s.position) all h.1,
      subst (λ (v : ReaderState). peek v ≡ gave c s1.position) m.same told,
    )

-- The walk through the members: whether the key that the reader is after is the name.
abbrev pub MembersRead : ReaderState → ReaderState → List ℕ → Option Bool → Option ℕ → Type 0
MembersRead s0 s name named place =
    (key : Option (List ℕ)) × (option_map (λ k. bytes_eq k name) key ≡ named)
    × MembersPassed name s0 key place s.position

pub named-as : {A : Type 0} (at : A → List ℕ) (name : List ℕ) (o : Option A) (named : Option Bool)
    → named ≡ option_map (λ x. bytes_eq (at x) name) o → option_map (λ k. bytes_eq k name) (option_map at o) ≡ named
named-as at name None named is = sym is
named-as at name (Some x) named is = sym is

pub members-read : (s0 s : ReaderState) (name : List ℕ) (place : Option ℕ) → MembersRead s0 s name None place
    → MembersPassed name s0 None place s.position
members-read s0 s name place (None, is, h) = h
members-read s0 s name place (Some k, is, h) = absurd (cc)
