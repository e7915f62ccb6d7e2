-- Which copies of the client may want memory: a string is read with a borrowed text, or has a backslash.
use Rattle.jiter.proofs.Words.{◌≡◌, ◌∙◌, refl, sym, ap, subst, ℕ, ◌+◌, ◌<◌, Bool, true, false, List, length, inl, inr}
use Rattle.jiter.proofs.Words.{Option, Some, None, slice_get, slice_index, slice_range, ◌==◌, if◌then◌else◌}
use Rattle.jiter.proofs.Words.{slice_get_within, invalid_code_point, Scanned, taken, failed, WantsMemory, whole, kept}
use Rattle.jiter.proofs.Words.{string_at, Text, nesting_limit, start_of, scalar_at, inside_at, seen_as, whole_trees}
use Rattle.jiter.proofs.Words.{StandsAt, reply_seen, text_bytes, ReaderState, gave, known, scalar_reply, str_read}
use Rattle.std.specs.Prelude.{◌⊎◌}
use Rattle.std.specs.Str.Lossy.{utf8_valid_len}
use Rattle.std.proofs.lemmas.Bool.{eqb-true, eqb-false}
use Rattle.jiter_scan.specs.Scan.{scan_stop}
use Rattle.jiter_steps.specs.StringReading.{if_utf8}
use Rattle.jiter_steps.specs.Tree as tree
use Rattle.jiter_steps.specs.Read.{value_with}
use Rattle.jiter_steps.specs.declared.parse.Start.TheVariants as start
use Rattle.jiter_steps.proofs.Calls.StringAnswers.{string-none, string-quote, string-control}
use Rattle.jiter_value.specs.Owned.{ReadHolds}
use Rattle.jiter_value.specs.Value.{MayGrowAs}
use Rattle.jiter.specs.Client.{OwnedMayGrowAt}
use Rattle.jiter.proofs.Building.{known-first}

-- bytes that were checked keep their mark
checked-mark : (i e f : ℕ) (o : Bool) (bs : List ℕ) (s : Text) → if_utf8 i o bs e ≡ taken s f → s.owned ≡ o
checked-mark i e f o bs s h = by (utf8_valid_len bs == length bs) h where
  by : (c : Bool) → (if c then taken (record { owned = o; bytes = bs }) e
      else failed invalid_code_point (i + utf8_valid_len bs)) ≡ taken s f → s.owned ≡ o
  by true q =
      let read : Text = record { owned = o; bytes = bs } in
      let same : read ≡ s = cc in
      ap (λ (x : Text). x.owned) (sym same)
  by false q = absurd (cc)

module _ (t : List ℕ) (at : ℕ) (inside : at < length t) (s : Text) (e : ℕ)
    (read : string_at whole t at ≡ taken s e) where
  abbrev to : ℕ
  to = scan_stop t (at + 1)

  -- by the byte that ends its plain bytes
  ended-by : (b : ℕ) → slice_get t to ≡ Some b → (c d : Bool) → (b == 34) ≡ c → (b == 92) ≡ d
      → (s.owned ≡ false) ⊎ WantsMemory t at
  ended-by b h true d q r =
      let quote = string-quote t at inside to refl false (h ∙ ap Some (eqb-true b 34 q)) in
      inl (checked-mark (at + 1) (to + 1) e false (slice_range t (at + 1) to) s (sym quote ∙ read))
  ended-by b h false true q r = inr (h ∙ ap Some (eqb-true b 92 r))
  ended-by b h false false q r =
      let control = string-control t at inside to refl whole b h (eqb-false b 34 q) (eqb-false b 92 r) in absurd (cc)

  by-stop : (o : Option ℕ) → slice_get t to ≡ o → (s.owned ≡ false) ⊎ WantsMemory t at
  by-stop None h = let end = string-none t at inside to refl whole h in absurd (cc)
  by-stop (Some b) h = ended-by b h (b == 34) (b == 92) refl refl

  -- a string was borrowed, or has a backslash
  pub borrowed-or-escaped : (s.owned ≡ false) ⊎ WantsMemory t at
  borrowed-or-escaped = by-stop (slice_get t to) refl

-- Where a string was read, of which the bytes are copied, owning the value may want memory.
module _ (s : ReaderState) (here : StandsAt s 34) where
  begins-string : start_of (slice_index s.text s.position) ≡ start.String
  begins-string = known-first s 34 here

  by-read : (bs : List ℕ) (e : ℕ) (x : Scanned Text) → string_at whole s.text s.position ≡ x
      → reply_seen text_bytes (scalar_reply s.position x) ≡ gave bs e → OwnedMayGrowAt s
  by-read bs e (taken a f) h q =
      let inside = slice_get_within s.text s.position 34 here in
      let rules = whole_trees s.names in
      let read =
      ap (value_with rules (inside_at rules s.text nesting_limit) s.text s.position) begins-string
      ∙ ap (λ x. scalar_at s.position (seen_as (λ u i. tree.string u) x)) h in
      elim (borrowed-or-escaped s.text s.position inside a f h) [
        | inl borrowed ↦ inr (subst ReadHolds (sym read) borrowed)
        | inr escaped ↦ inl (subst (MayGrowAs s.text s.position) (sym begins-string) escaped)
      ]
  by-read bs e (failed k j) h q = absurd (cc)

  pub copied : s.partial_strings ≡ false → (bs : List ℕ) (e : ℕ)
      → reply_seen text_bytes (known s (str_read s)) ≡ gave bs e → OwnedMayGrowAt s
  copied uncut bs e h =
      let reads =
      ap (str_read s s.position) begins-string
      ∙ ap (λ p. scalar_reply s.position (string_at (if p then kept else whole) s.text s.position)) uncut in
      by-read bs e (string_at whole s.text s.position) refl (sym (ap (reply_seen text_bytes) reads) ∙ h)
