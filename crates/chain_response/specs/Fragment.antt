-- Rule 7.6: one fragment of a response field (fragmenting is also called "cutting"): as many bytes as Le asks for at most, and a status word that
-- announces how many are left.
use Rattle.std.specs.Prelude.{Result, Ok, Err, [], ◌∷◌, ◌++◌, ℕ, ◌+◌, ◌-◌, eqb, leb, ltb, length, take, drop}
use Rattle.octets.specs.Bytes.{Bytes}
use Rattle.std.specs.Prelude.{if◌then◌else◌}
use Rattle.apdu.specs.declared.StatusWord.{StatusWord}
use Rattle.refusal.specs.declared.Refusal.{Refusal}
use Rattle.refusal.specs.declared.Refusal.TheVariants.{NotPermitted, TooLong, BufferTooSmall, BrokenChain}
use Rattle.message_answer.specs.Message.{more_sw1}
use Rattle.message_permission.specs.Permission.{status_permitted}
use Rattle.message_answer.specs.Answer.{Answer, refused, gave, require◌else◌⨾◌}
use Rattle.chain_response.specs.declared.ResponseFragment.{ResponseFragment}

-- the longest field that is wrapped; how long a field may be that is read is another limit
abbrev pub longest_field : ℕ
longest_field = 16403

-- how many bytes Le asks for
unfoldable pub asked : ℕ → ℕ
asked le = if eqb le 0x00 then 256 else le

-- the data of the fragment from index at on
unfoldable pub fragment_data : Bytes → ℕ → ℕ → Bytes
fragment_data field at le = take (asked le) (drop at field)

-- SW2 of "more bytes are available", where n are left
unfoldable pub announced : ℕ → ℕ
announced n = if leb n 255 then n else 0x00

-- the status word of a fragment, with n bytes left after it
unfoldable pub fragment_status : StatusWord → ℕ → Bytes
fragment_status sw n = if eqb n 0 then sw.sw1 ∷ sw.sw2 ∷ [] else (more_sw1 ∷ announced n ∷ [])

-- the index behind it
unfoldable pub next : Bytes → ℕ → ℕ → ℕ
next field at le = at + length (fragment_data field at le)

unfoldable pub fragment : StatusWord → Bytes → ℕ → ℕ → Bytes
fragment sw field at le = fragment_data field at le ++ fragment_status sw (length field - next field at le)

unfoldable pub fragment_response : StatusWord → Bytes → ℕ → ℕ → ℕ → Answer Bytes
fragment_response sw field at le room =
    require status_permitted sw else NotPermitted ⨾
    require leb (length field) longest_field else TooLong ⨾
    require ltb at (length field) else BrokenChain ⨾
    require leb (length (fragment sw field at le)) room else BufferTooSmall (length (fragment sw field at le)) ⨾
    gave (fragment sw field at le)

-- as the function gives it: the fragment stands in the caller's buffer
abbrev pub fragment_answer : ℕ → Answer Bytes → Result ResponseFragment Refusal
fragment_answer n (refused r) = Err r
fragment_answer n (gave bytes) = Ok (record { len = length bytes; next = n })
