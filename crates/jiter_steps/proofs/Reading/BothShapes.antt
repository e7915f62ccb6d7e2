-- What holds of the kinds and closers of arrays and of objects alike.
use Rattle.jiter_steps.proofs.Words.{◌≡◌, ◌≢◌, ◌==◌, true, false, refl, is_end_kind, is_forgiven, out_of_memory}
use Rattle.jiter_steps.proofs.Words.{is_blank, start_of, closer_of, begins_part, end_kind_of, comma_kind_of}
use Rattle.jiter_steps.proofs.Words.{ContainerKind}
use Rattle.jiter_steps.specs.declared.parse.ContainerKind.TheVariants as shape
use Rattle.jiter_steps.specs.declared.parse.Start.TheVariants as start

-- the kind at the input's end
pub end_kind-early : (b : ContainerKind) → is_end_kind (end_kind_of b) ≡ true
end_kind-early shape.Array = refl
end_kind-early shape.Object = refl

pub end_kind-bytes : (b : ContainerKind) → end_kind_of b ≢ out_of_memory
end_kind-bytes shape.Array e = cc
end_kind-bytes shape.Object e = cc

-- the kind at a missing comma
pub comma_kind-late : (b : ContainerKind) → is_end_kind (comma_kind_of b) ≡ false
comma_kind-late shape.Array = refl
comma_kind-late shape.Object = refl

pub comma_kind-bytes : (b : ContainerKind) → comma_kind_of b ≢ out_of_memory
comma_kind-bytes shape.Array e = cc
comma_kind-bytes shape.Object e = cc

pub comma_kind-forgiven : (b : ContainerKind) → is_forgiven (comma_kind_of b) ≡ true
comma_kind-forgiven shape.Array = refl
comma_kind-forgiven shape.Object = refl

-- the closer
pub closer-no_blank : (b : ContainerKind) → is_blank (closer_of b) ≡ false
closer-no_blank shape.Array = refl
closer-no_blank shape.Object = refl

pub closer-no_comma : (b : ContainerKind) → (44 == closer_of b) ≡ false
closer-no_comma shape.Array = refl
closer-no_comma shape.Object = refl

pub closer-begins_none : (b : ContainerKind) → start_of (closer_of b) ≡ start.Nothing
closer-begins_none shape.Array = refl
closer-begins_none shape.Object = refl

pub closer-begins_no_part : (b : ContainerKind) → begins_part b (closer_of b) ≡ false
closer-begins_no_part shape.Array = refl
closer-begins_no_part shape.Object = refl
