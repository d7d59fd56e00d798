-- One direction: the accepted log is the first part of the wrapped log, message by message and input by input.
use mathlib.Core.Path.{◌≡◌, refl, sym, ap, ◌∙◌}
use mathlib.Core.Logic.{◌⊎◌, inl, inr}
use mathlib.Core.List.{List, [], ◌∷◌, ◌++◌, append_assoc, Memᴰ}
use Prim.Native.Nat.{ℕ, suc, ◌+◌, ◌≤◌, ◌<◌}
use native.Mathlib.Omega.{arith}
use lib.ListN.{length, take, length-append}
use lib.Seq.{append_snoc, take_at}
use Rattle.std.specs.Prelude.{Option, Some}
use Rattle.octets.specs.Bytes.{Bytes, IsBytes}
use Rattle.field_laws.specs.Written.{WholeBlocks}
use Rattle.message_answer.specs.Message.{Message}
use Rattle.message_exchange.specs.Exchange.{Entry, Log, messages, inputs, Logs, Direction, wrap_entry, field_of, fields_from, wraps, accepts, SameMessages, empty_logs}
use Rattle.message_exchange.proofs.Places.{messages_append, length_messages, member, AllMade, all_made_snoc, Next, Repeated, place}

-- ---- what is asked of a direction

-- `first`: what the MAC input of the message after a log begins with; `decrypt`: the data of the message at a place
pub record Lawful {H : Type 0} (D : Direction H) (first : Log H → Bytes) (decrypt : ℕ → Bytes → Option Bytes) : Type 0 where
  pub begins : (log : Log H) (h : H) (covered : Bytes) → (rest : Bytes) × (D.input log h covered ≡ first log ++ rest)
  pub first_length : (log : Log H) → length (first log) ≡ 16
  pub blocks : (place : ℕ) (d : Bytes) → IsBytes d → length d < 65504 → WholeBlocks 65519 (D.encrypt place d)
  pub decrypt_encrypt : (place : ℕ) (d : Bytes) → IsBytes d → decrypt place (D.encrypt place d) ≡ Some d

module _ {H : Type 0} (D : Direction H) where
  -- ---- fields handed out

  fields_snoc : (first place : ℕ) (log : Log H) (e : Entry H) → place ≡ first + length log
      → fields_from D first (log ++ e ∷ []) ≡ fields_from D first log ++ field_of D place e ∷ []
  unfolding fields_from
  fields_snoc first place [] e p = ap (λ (n : ℕ). field_of D n e ∷ []) (let z : first ≡ place = omega (arith, p) in z)
  fields_snoc first place (x ∷ log) e p = ap (field_of D first x ∷◌) (fields_snoc (suc first) place log e (omega (arith, p)))

  -- ---- the logs

  -- an entry that a wrap added after a log
  pub record Made (log : Log H) (x : Entry H) : Type 0 where
    pub input_is : x.input ≡ (wrap_entry D x.message log).input
    pub bytes : IsBytes x.message.payload
    pub short : length x.message.payload < 65504

  -- the accepted log is the first part of the wrapped log, which wraps made, and the fields are those of its entries
  pub record Channel (l : Logs H) : Type 0 where
    pub more : Log H
    pub is : l.accepted ++ more ≡ l.wrapped
    pub made : AllMade Made [] l.wrapped
    pub written : l.fields ≡ fields_from D 1 l.wrapped

  pub channel_empty : Channel empty_logs
  unfolding fields_from
  channel_empty = record { more = []; is = refl; made = tt; written = refl }

  module _ (l : Logs H) (channel : Channel l) where
    pub channel_length : length l.accepted ≤ length l.wrapped
    channel_length = omega (arith, simp length-append at (ap length channel.is))

    pub channel_messages : SameMessages l
    channel_messages =
        sym (ap (λ (log : Log H). take (length l.accepted) (messages log)) (sym channel.is)
        ∙ ap (take (length l.accepted)) (messages_append l.accepted channel.more)
        ∙ take_at (messages l.accepted) (messages channel.more) (length l.accepted) (length_messages l.accepted))

    pub channel_wraps : (m : Message H) (field : Bytes) → IsBytes m.payload → length m.payload < 65504
        → field ≡ field_of D (suc (length l.wrapped)) (wrap_entry D m l.wrapped) → Channel (wraps D m field l)
    unfolding wrap_entry
    channel_wraps m field y short is =
        let x : Entry H = wrap_entry D m l.wrapped in
        record {
          more = channel.more ++ x ∷ [];
          is = sym (append_assoc l.accepted channel.more (x ∷ [])) ∙ ap (λ (log : Log H). log ++ x ∷ []) channel.is;
          made = all_made_snoc Made [] l.wrapped x channel.made (record { input_is = refl; bytes = y; short = short });
          written =
              ap (λ (fs : List Bytes). fs ++ field ∷ []) channel.written
              ∙ ap (λ (f : Bytes). fields_from D 1 l.wrapped ++ f ∷ []) is
              ∙ sym (fields_snoc 1 (suc (length l.wrapped)) l.wrapped x (omega arith));
        }

    -- An acceptance with the input that follows the accepted log, which determines its header and its encrypted data: its message is the next of
    -- the wrapped log, or the sender had not MACed the input, or another place of the wrapped log begins the same.
    module _ {first : Log H → Bytes} {decrypt : ℕ → Bytes → Option Bytes} (law : Lawful D first decrypt) (m : Message H) (c covered : Bytes)
        (reads : (h : H) (c' : Bytes) → WholeBlocks 65519 c'
        → D.input l.accepted m.header covered ≡ D.input l.accepted h (D.objects h c') → (m.header ≡ h) × (c ≡ c'))
        (text : decrypt (suc (length l.accepted)) c ≡ Some m.payload) where
      abbrev A : Log H
      A = l.accepted

      abbrev i : Bytes
      i = D.input A m.header covered

      abbrev x : Entry H
      x = record { message = m; input = i }

      begins_so : (L : Log H) (y : Entry H) → Made L y → (rest : Bytes) × (y.input ≡ first L ++ rest)
      unfolding wrap_entry
      begins_so L y made = let b = law.begins L y.message.header _ in (b.0, made.input_is ∙ b.1)

      took : Next Made A channel.more i → Channel (accepts x l)
      unfolding wrap_entry
      took t =
          record {
            more = t.more;
            is = append_snoc A x t.more ∙ ap (λ (y : Entry H). A ++ y ∷ t.more) whole ∙ ap (λ (log : Log H). A ++ log) (sym t.is) ∙ channel.is;
            made = channel.made;
            written = channel.written;
          }
        where
          n : Message H
          n = t.entry.message

          ciphertext : Bytes
          ciphertext = D.encrypt (suc (length A)) n.payload

          parts : (m.header ≡ n.header) × (c ≡ ciphertext)
          parts = reads n.header ciphertext (law.blocks (suc (length A)) n.payload t.made.bytes t.made.short) (sym t.same ∙ t.made.input_is)

          data_same : m.payload ≡ n.payload
          data_same =
              let e : Some m.payload ≡ Some n.payload =
              sym text ∙ ap (decrypt (suc (length A))) parts.1 ∙ law.decrypt_encrypt (suc (length A)) n.payload t.made.bytes in cc

          whole : x ≡ t.entry
          whole = λ j. record { message = record { header = parts.0 j; payload = data_same j }; input = sym t.same j }

      pub channel_accepts : Channel (accepts (record { message = m; input = D.input l.accepted m.header covered }) l)
          ⊎ ((Memᴰ (D.input l.accepted m.header covered) (inputs l.wrapped) → ⊥) ⊎ Repeated first l.accepted l.wrapped)
      channel_accepts = go (member i (inputs l.wrapped))
        where
          b : (rest : Bytes) × (i ≡ first A ++ rest)
          b = law.begins A m.header covered

          go : Memᴰ i (inputs l.wrapped) ⊎ (Memᴰ i (inputs l.wrapped) → ⊥)
              → Channel (accepts x l) ⊎ ((Memᴰ i (inputs l.wrapped) → ⊥) ⊎ Repeated first A l.wrapped)
          go (inr new) = inr (inl new)
          go (inl sent) =
              elim (place first Made begins_so (λ L M. law.first_length L ∙ sym (law.first_length M)) A channel.more l.wrapped b.0
              channel.is channel.made (rw b.1 at sent))
              [ inl next ↦ inl (took (rw b.1 next)) | inr again ↦ inr (inr again) ]
