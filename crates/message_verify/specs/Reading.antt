-- The stages of an unwrap that read: the objects of the field, and the text.
use Rattle.std.specs.Prelude.{Option, None, Some, Result, Ok, Err}
use Rattle.refusal.specs.declared.Refusal.TheVariants.{Malformed, MissingObject, BadPadding}
use Rattle.field_read.specs.declared.Objects.{Objects}
use Rattle.field_read.specs.declared.FieldError.{FieldError}
use Rattle.field_read.specs.declared.FieldError.TheVariants.{Malformed as BadField, Missing}
use Rattle.message_answer.specs.Answer.{Answer, refused, gave}

-- 7 at the first breach, 8 where an object is lacking at the end
unfoldable pub objects_of : Result Objects FieldError → Answer Objects
objects_of (Ok o) = gave o
objects_of (Err (BadField b)) = refused Malformed
objects_of (Err (Missing tag end)) = refused MissingObject

-- 10 where the padding is wrong
unfoldable pub text_of : {A : Type 0} → Option A → Answer A
text_of (Some d) = gave d
text_of None = refused BadPadding
