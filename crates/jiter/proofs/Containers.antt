-- How far the client is in a container, and each way on or out.
use Rattle.jiter.proofs.Words.{◌≡◌, ◌∙◌, sym, ap, subst, ℕ, ◌+◌, ◌-◌, ◌<◌, List, [], ◌∷◌, ◌++◌, length, map, arith}
use Rattle.jiter.proofs.Words.{slice_get_within, Option, Some, None, option_map, Result, Ok, Err, IsErrAnd, IfSome}
use Rattle.jiter.proofs.Words.{whole, string_at, Tree, Step, more, closed, stuck, step, owned_text, Cause, MovesOn}
use Rattle.jiter.proofs.Words.{StandsAt, reply_seen, Reads, anywhere, ReaderState, Reply, gave, refused, with_position}
use Rattle.jiter.proofs.Words.{known, part_reply, key_reply, array_read, object_read, JiterError}
use Rattle.std.proofs.lemmas.List.{map_push}
use Rattle.jiter_steps.specs.Step.{object_first}
use Rattle.jiter_value.specs.Value.{LeadsOn}
use Rattle.jiter.specs.Errors.{cause_of}
use Rattle.jiter.proofs.Building.{Walk, WalkLaws, ToldAt, LeadsTo, all, after, left, leads, items, members}
use Rattle.jiter.proofs.Building.{known-first, seen-part}
use Rattle.jiter.proofs.Walking.{moves-on}

-- the bytes are as many as before
same-length : {s0 s : ReaderState} → MovesOn s0 s → length s.text ≡ length s0.text
same-length m = ap (λ (x : ReaderState). length x.text) m.same

-- an error that `?` passes on
pub passed-on : {X A : Type 0} {view : X → A} {e : JiterError} {s0 s : ReaderState} {r : Reply A}
    (x : Result X JiterError) → IsErrAnd x (λ d. d ≡ e) → Reads anywhere view r (Err e) s0 s → Reads anywhere view r x s0 s
passed-on (Ok x) is h = absurd is
passed-on {view = view} {s0 = s0} {s = s} {r = r} (Err d) is h =
    subst (λ d. Reads anywhere view r (Err d) s0 s) (sym is) h

-- an error, whatever would have been seen of the reply
refusal-seen : {A B C : Type 0} (f : A → B) (g : A → C) (r : Reply A) (c : Cause) (x stop : ℕ)
    → reply_seen f r ≡ refused c x stop → reply_seen g r ≡ refused c x stop
refusal-seen f g (gave a i) c x stop h = absurd (cc)
refusal-seen f g (refused d i n) c x stop h = cc

pub refused-seen : {X Y A B C : Type 0} {seen : X → B} {view : Y → C} {e : JiterError} {s0 s : ReaderState}
    (f : A → B) (g : A → C) (r : Reply A) → Reads anywhere seen (reply_seen f r) (Err e) s0 s
    → Reads anywhere view (reply_seen g r) (Err e) s0 s
refused-seen {e = e} {s = s} f g r h = record {
  moves = h.moves;
  value = λ m. refusal-seen f g r (cause_of e.error_type) e.index s.position (h.value m);
  index = h.index;
  memory = h.memory;
}

-- Of the container whose bracket is at s0 these parts were built, and the reader is where the next one was told
-- of, or after the container.
pub record In {K P : Type 0} (s0 s : ReaderState) (w : Walk K P) (next : Option K) (parts : List P) : Type 0 where
  pub moves : MovesOn s0 s
  pub here : ToldAt s0 w next s.position
  pub opens : IfSome next (λ k. LeadsOn (step s0.text w.container.first (s0.position + 1)))
  pub left : all s0 w ≡ left s0 w next parts s.position

-- a step that tells of a part leads on
pub told-leads : {K : Type 0} (told : ℕ → Reply (Option K)) (s : Step) (o : Option K) (e : ℕ)
    → part_reply told s ≡ gave o e → IfSome o (λ k. LeadsOn s)
told-leads told s None e h = tt
told-leads told (more i) (Some k) e h = tt
told-leads told (closed i) (Some k) e h = absurd (cc)
told-leads told (stuck c i) (Some k) e h = absurd (cc)

-- what was pushed, seen so
pub map-pushed : {X P : Type 0} (f : X → P) (xs ys : List X) (x : X) → ys ≡ xs ++ x ∷ []
    → map f xs ++ f x ∷ [] ≡ map f ys
map-pushed f xs ys x h = sym (map_push f _ _) ∙ sym (ap (map f) h)

module _ {K P : Type 0} {s0 : ReaderState} {w : Walk K P} (laws : WalkLaws s0 w) where
  -- the first step
  abbrev first : Step
  first = step s0.text w.container.first (s0.position + 1)

  opened : (c : ℕ) → StandsAt s0 c → LeadsTo s0 w [] (all s0 w) (part_reply w.told first)
  opened c at =
      let lt = slice_get_within s0.text s0.position c at in
      leads s0 w laws [] (s0.position + 1) first (laws.goes.first (s0.position + 1) (omega arith))

  pub begins : {Y : Type 0} {keys : Y → Option K} {y : Y} {s : ReaderState} (c : ℕ) → StandsAt s0 c
      → Reads anywhere keys (part_reply w.told first) (Ok y) s0 s → In s0 s w (keys y) []
  begins {keys = keys} {y = y} {s = s} c at h =
      let led = subst (LeadsTo s0 w [] (all s0 w)) h.value (opened c at) in
      record {
        moves = h.moves;
        here = led.1;
        opens = told-leads w.told first (keys y) s.position h.value;
        left = led.0;
      }

  pub first-refused : {X Y : Type 0} {view : X → Tree} {keys : Y → Option K} {e : JiterError} {s : ReaderState}
      (c : ℕ) → StandsAt s0 c → Reads anywhere keys (part_reply w.told first) (Err e) s0 s
      → Reads anywhere view (all s0 w) (Err e) s0 s
  first-refused c at h = record {
    moves = h.moves;
    value = λ m. subst (LeadsTo s0 w [] (all s0 w)) (h.value m) (opened c at);
    index = h.index;
    memory = h.memory;
  }

  -- after the last part
  pub ended : {X : Type 0} {view : X → Tree} {x : X} {s : ReaderState} {parts : List P} → In s0 s w None parts
      → view x ≡ w.container.build s.position parts → Reads anywhere view (all s0 w) (Ok x) s0 s
  ended {s = s} inv is = record {
    moves = inv.moves;
    value = inv.left ∙ ap (λ v. gave v s.position) (sym is);
    index = tt;
    memory = tt;
  }

  module _ {s : ReaderState} {k : K} {parts : List P} (inv : In s0 s w (Some k) parts) where
    asked-here : (r : Reply Tree) → w.asked s ≡ r → w.asked (with_position s0 s.position) ≡ r
    asked-here r h = subst (λ (x : ReaderState). w.asked x ≡ r) inv.moves.same h

    after-here : (r : Reply Tree) → w.asked s ≡ r → all s0 w ≡ after s0 w parts (reply_seen (w.part k) r)
    after-here r h = inv.left ∙ ap (λ x. after s0 w parts (reply_seen (w.part k) x)) (asked-here r h)

    still : (o : Option K) → IfSome o (λ k. LeadsOn first)
    still None = tt
    still (Some k) = inv.opens

    -- a part whose value was refused
    pub part-refused : {X : Type 0} {view : X → Tree} {e : JiterError} {s1 : ReaderState}
        → Reads anywhere view (w.asked s) (Err e) s s1 → Reads anywhere view (all s0 w) (Err e) s0 s1
    part-refused {s1 = s1} h = record {
      moves = moves-on s0 s s1 inv.moves h.moves;
      value = λ m. after-here _ (h.value m);
      index = omega (arith, h.index, same-length inv.moves);
      memory = h.memory;
    }

    -- a part that was built, and the call after it
    module _ {X : Type 0} {view : X → Tree} {x : X} {s1 : ReaderState}
        (built : Reads anywhere view (w.asked s) (Ok x) s s1) where
      after-moves : MovesOn s0 s1
      after-moves = moves-on s0 s s1 inv.moves built.moves

      abbrev with_part : List P
      with_part = parts ++ w.part k (view x) ∷ []

      after-leads : LeadsTo s0 w with_part (all s0 w) (w.stepped s1)
      after-leads =
          let e = s1.position in
          let next = step s0.text w.container.next e in
          let same : w.stepped s1 ≡ part_reply w.told next = ap w.stepped after-moves.same ∙ laws.steps e in
          let led = leads s0 w laws with_part e next (laws.goes.next e after-moves.within) in
          subst (LeadsTo s0 w with_part (all s0 w)) (sym same)
          (subst (λ r. LeadsTo s0 w with_part r (part_reply w.told next)) (sym (after-here _ built.value)) led)

      -- it leads on, or ends the container
      pub goes-on : {Y : Type 0} {keys : Y → Option K} {y : Y} {s2 : ReaderState} {more : List P}
          → Reads anywhere keys (w.stepped s1) (Ok y) s1 s2 → with_part ≡ more → In s0 s2 w (keys y) more
      goes-on {keys = keys} {y = y} {s2 = s2} stepped grown =
          let led = subst (LeadsTo s0 w with_part (all s0 w)) stepped.value after-leads in
          subst (λ ps. In s0 s2 w (keys y) ps) grown
          (record {
            moves = moves-on s0 s1 s2 after-moves stepped.moves;
            here = led.1;
            opens = still (keys y);
            left = led.0;
          })

      -- each turn goes ahead
      pub turn-ahead : {s2 : ReaderState} → MovesOn s1 s2 → length s0.text - s2.position < length s0.text - s.position
      turn-ahead {s2 = s2} m2 =
          let ahead = laws.ahead k s.position (view x) s1.position inv.here (asked-here _ built.value) in
          let moves = moves-on s0 s1 s2 after-moves m2 in
          omega (arith, ahead, m2.forward, moves.within)

      -- no part goes on, and no closer is
      pub stuck-after : {Y : Type 0} {keys : Y → Option K} {e : JiterError} {s2 : ReaderState}
          → Reads anywhere keys (w.stepped s1) (Err e) s1 s2 → Reads anywhere view (all s0 w) (Err e) s0 s2
      stuck-after {s2 = s2} stepped = record {
        moves = moves-on s0 s1 s2 after-moves stepped.moves;
        value = λ m. subst (LeadsTo s0 w with_part (all s0 w)) (stepped.value m) after-leads;
        index = omega (arith, stepped.index, same-length after-moves);
        memory = stepped.memory;
      }

-- the calls that open a container
pub array-opens : (s0 : ReaderState) (levels : ℕ) → StandsAt s0 91
    → known s0 (array_read s0)
    ≡ part_reply (items s0 levels).told (step s0.text (items s0 levels).container.first (s0.position + 1))
array-opens s0 levels at = ap (array_read s0 s0.position) (known-first s0 91 at)

pub object-opens : (s0 : ReaderState) (levels : ℕ) → StandsAt s0 123
    → reply_seen (option_map owned_text) (known s0 (object_read whole s0))
    ≡ part_reply (members s0 levels).told (step s0.text (members s0 levels).container.first (s0.position + 1))
object-opens s0 levels at =
    ap (λ b. reply_seen (option_map owned_text) (object_read whole s0 s0.position b)) (known-first s0 123 at)
    ∙ seen-part owned_text (λ j. key_reply s0.text j (string_at whole s0.text j))
    (step s0.text object_first (s0.position + 1))
