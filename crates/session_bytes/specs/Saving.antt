-- Rule 2.5: saving, with its refusals.
use Rattle.std.specs.Prelude.{ℕ, leb, if◌then◌else◌, Result, Ok, Err}
use Rattle.octets.specs.Bytes.{Bytes}
use Rattle.octets.specs.Write.{over}
use Rattle.refusal.specs.declared.Refusal.{Refusal}
use Rattle.refusal.specs.declared.Refusal.TheVariants.{SessionClosed, BufferTooSmall}
use Rattle.session.specs.declared.Session.{Session}
use Rattle.session_rules.specs.Valid.{valid}
use Rattle.session_bytes.specs.Saved.{session_size, encode}

-- saved, or refused
abbrev pub Encoding : Type 0
Encoding = Result (Unit {0}) Refusal

-- 1, only for a session value that breaks the rules, then 6
unfoldable pub encoding : Session → ℕ → Encoding
encoding s room =
    if valid s then if leb session_size room then Ok tt else Err (BufferTooSmall session_size)
    else Err SessionClosed

-- what the caller's buffer, which held xs, holds afterwards
unfoldable pub encoded_in : Bytes → Encoding → Session → Bytes
encoded_in xs (Ok done) s = over xs (encode s)
encoded_in xs (Err refusal) s = xs
