-- Rule 7.1: one fragment of a command field (fragmenting is also called "cutting"). The size that is asked for decides how many there are;
-- they are numbered from 0.
use Rattle.std.specs.Prelude.{Result, Ok, Err, ℕ, suc, ◌*◌, eqb, leb, ltb, length, take, drop}
use Rattle.octets.specs.Bytes.{Bytes}
use Rattle.std.specs.Prelude.{if◌then◌else◌}
use Rattle.chain_parts.specs.Parts.{ceiling}
use Rattle.apdu.specs.declared.Header.{Header}
use Rattle.refusal.specs.declared.Refusal.{Refusal}
use Rattle.refusal.specs.declared.Refusal.TheVariants.{TooLong, BufferTooSmall, BrokenChain, FragmentTooLong}
use Rattle.message_answer.specs.Answer.{Answer, refused, gave, require◌else◌⨾◌}
use Rattle.chain_command.specs.Apdu.{fragment_apdu}

-- the longest field that is wrapped; how long a field may be that is read is another limit
abbrev pub longest_field : ℕ
longest_field = 2066

-- the largest fragment, and the one that 0 asks for
abbrev pub max_fragment : ℕ
max_fragment = 255

abbrev pub default_fragment : ℕ
default_fragment = 255

unfoldable pub fragment_size : ℕ → ℕ
fragment_size p = if eqb p 0 then default_fragment else p

-- of a field of n bytes, with the size that was asked for
unfoldable pub fragment_count : ℕ → ℕ → ℕ
fragment_count n p = ceiling n (fragment_size p)

-- fragment k, from 0
unfoldable pub fragment : Header → Bytes → ℕ → ℕ → Bytes
fragment h field p k =
    fragment_apdu (eqb (suc k) (fragment_count (length field) p)) h (take (fragment_size p) (drop (k * fragment_size p) field))

unfoldable pub fragment_command : Header → Bytes → ℕ → ℕ → ℕ → Answer Bytes
fragment_command h field p k room =
    require leb p max_fragment else FragmentTooLong ⨾
    require leb (length field) longest_field else TooLong ⨾
    require ltb k (fragment_count (length field) p) else BrokenChain ⨾
    require leb (length (fragment h field p k)) room else BufferTooSmall (length (fragment h field p k)) ⨾
    gave (fragment h field p k)

-- as the function gives it: the APDU stands in the caller's buffer
abbrev pub fragment_answer : Answer Bytes → Result ℕ Refusal
fragment_answer (refused r) = Err r
fragment_answer (gave apdu) = Ok (length apdu)
