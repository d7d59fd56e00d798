-- What links the two sessions and the transcript; and that every call keeps it, or is an acceptance that breaks the MAC.
use mathlib.Core.Path.{◌≡◌, refl, sym, ap, ap₂, ◌∙◌}
use mathlib.Core.Logic.{◌⊎◌, inl, inr}
use mathlib.Core.Bool.{true}
use mathlib.Core.List.{[], ◌∷◌, ◌++◌, Memᴰ}
use Prim.Native.Nat.{ℕ, suc, ◌+◌}
use native.Mathlib.Omega.{arith}
use lib.ListN.{length, take, length-append}
use Rattle.octets.specs.Bytes.{Bytes, IsBytes}
use Rattle.field_read.specs.Field.{read_field, ciphertext_of, covered_of}
use Rattle.field_read.specs.declared.Objects.{Objects}
use Rattle.std.specs.Prelude.{Ok, Some}
use Rattle.field_write.specs.Objects.{command_objects, response_objects, mac_object, command_field, response_field}
use Rattle.message_mac.specs.MacInput.{encoded_header, command_mac_input, response_mac_input}
use Rattle.field_laws.specs.Covered.{data_in, second_in, sw1_in, sw2_in}
use Rattle.field_laws.specs.Written.{WholeBlocks}
use Rattle.field_laws.proofs.Determined.{determined}
use Rattle.field_laws.proofs.CoveredWritten.{command_data, command_le, response_data, response_status}
use Rattle.apdu.specs.declared.Header.{Header}
use Rattle.session.specs.Session.{closed}
use Rattle.session_turn.specs.Transitions.{command_taken, response_taken}
use Rattle.session_suite.specs.StoredKeys.{key_in, Keys}
use Rattle.session_rules.specs.Valid.{counts_as_open}
use Rattle.session.specs.declared.Side.{Side}
use Rattle.session.specs.declared.Side.TheVariants.{Host, Card}
use Rattle.session.specs.declared.Phase.TheVariants.{Ready, Pending}
use Rattle.session.specs.declared.Session.{Session}
use Rattle.message_ciphers.specs.Ciphers.{Ciphers, Laws, IsKey}
use Rattle.message_answer.specs.Message.{CommandHeader, header_of, StatusWord, Command, Response, CommandGiven}
use Rattle.message_permission.specs.Permission.{command_wanted, response_wanted}
use Rattle.message_counter.specs.Counter.{command_counter, response_counter}
use Rattle.message_protocol.specs.Command.{command_input, command_mac, command_ciphertext, command_wrapped, command_accepted, header_read}
use Rattle.message_protocol.specs.Response.{response_mac, response_ciphertext, response_wrapped, response_accepted}
use Rattle.message_protocol.specs.Transcript.{wrap_command, unwrap_command, wrap_response, unwrap_response, Transcript, commands, responses, chaining, command_read, response_read, accepted_command, accepted_response, noted}
use Rattle.message_protocol.specs.Agreement.{Collision, Breaks}
use Rattle.message_exchange.specs.Exchange.{Entry, Log, inputs, wrap_entry, field_of, accepts}
use Rattle.message_exchange.proofs.Places.{append_cut, Repeated}
use Rattle.message_exchange.proofs.Channel.{Channel, channel_wraps, channel_accepts}
use Rattle.message_exchange.proofs.Kept as kept
use Rattle.message_protocol.proofs.ChainingValues.{chaining_snoc, collision}
use Rattle.message_protocol.proofs.Directions.{command_lawful, response_lawful}
use Rattle.message_protocol.proofs.CallCases.{turn_is, MayWrapCommand, MayWrapResponse, CommandRead, ResponseRead}

pub record AreKeys (K : Keys) : Type 0 where
  pub enc : IsKey K.enc
  pub mac : IsKey K.mac
  pub rmac : IsKey K.rmac

-- ---- a field whose MAC input is one that was made holds what that was made of

module _ (ch : Bytes) (header : Header) (field : Bytes) (o : Objects) (read : read_field (command_wanted header.ins) field ≡ Ok o) where
  command_same : (h : CommandHeader) (c : Bytes) → WholeBlocks 65519 c
      → command_input ch (header_read header o) (covered_of field o) ≡ command_input ch h (command_objects c h.le)
      → (header_read header o ≡ h) × (ciphertext_of field o ≡ c)
  unfolding command_input command_mac_input encoded_header
  command_same h c blocks q =
      let g : Bytes = encoded_header header in
      let k : Bytes = encoded_header (header_of h) in
      let n : length (ch ++ g) ≡ length (ch ++ k) = length-append ch g ∙ sym (length-append ch k) in
      let a : (ch ++ g ≡ ch ++ k) × (covered_of field o ≡ command_objects c h.le) =
      append_cut (ch ++ g) (covered_of field o) (ch ++ k) (command_objects c h.le) q n in
      let e : g ≡ k = (append_cut ch g ch k a.0 refl).1 in
      let i : header.ins ≡ h.ins = cc in
      let j : header.p1 ≡ h.p1 = cc in
      let l : header.p2 ≡ h.p2 = cc in
      let d = determined (command_wanted header.ins) field o read in
      let le : o.second ≡ h.le = d.present ∙ ap second_in a.1 ∙ command_le c blocks h.le in (
        (λ t. record { ins = i t; p1 = j t; p2 = l t; le = le t }),
        d.encrypted ∙ ap data_in a.1 ∙ command_data c blocks h.le,
      )

module _ (ch : Bytes) (sw : StatusWord) (field : Bytes) (o : Objects) (read : read_field (response_wanted sw) field ≡ Ok o) where
  response_same : (t : StatusWord) (c : Bytes) → WholeBlocks 65519 c
      → response_mac_input ch (covered_of field o) ≡ response_mac_input ch (response_objects c t.sw1 t.sw2)
      → (sw ≡ t) × (ciphertext_of field o ≡ c)
  unfolding response_mac_input response_wanted
  response_same t c blocks q =
      let e : covered_of field o ≡ response_objects c t.sw1 t.sw2 = (append_cut ch (covered_of field o) ch (response_objects c t.sw1 t.sw2) q refl).1 in
      let d = determined (response_wanted sw) field o read in
      let s = d.status sw.sw1 sw.sw2 refl in
      let u = response_status c blocks t.sw1 t.sw2 in
      let a : sw.sw1 ≡ t.sw1 = sym s.0 ∙ ap sw1_in e ∙ u.0 in
      let b : sw.sw2 ≡ t.sw2 = sym s.1 ∙ ap sw2_in e ∙ u.1 in
      ((λ i. record { sw1 = a i; sw2 = b i }), d.encrypted ∙ ap data_in e ∙ response_data c blocks t.sw1 t.sw2)

-- ---- sessions

pub ready_pending : {P : Type 0} → Ready ≡ Pending → P
ready_pending e = let z : ◌≡◌ {A = ℕ} 0 1 = cc in let o : ⊥ = omega arith in absurd o

pub host_card : {P : Type 0} → Host ≡ Card → P
host_card e = let z : ◌≡◌ {A = ℕ} 0 1 = cc in let o : ⊥ = omega arith in absurd o

pub closed_shut : {P : Type 0} (s : Session) → counts_as_open (closed s) ≡ true → P
unfolding counts_as_open
closed_shut s e = let z : ◌≡◌ {A = ℕ} 0 1 = cc in let o : ⊥ = omega arith in absurd o

-- ---- the invariant

module _ (C : Ciphers) (K : Keys) where
  -- what a session that counts as open has to do with the logs of its side
  pub record Live (side : Side) (s : Session) (cs : Log CommandHeader) (rs : Log StatusWord) : Type 0 where
    pub side_is : s.side ≡ side
    pub enc_is : key_in s.suite s.sk_enc ≡ K.enc
    pub mac_is : key_in s.suite s.sk_mac ≡ K.mac
    pub rmac_is : key_in s.suite s.sk_rmac ≡ K.rmac
    pub count_is : s.count ≡ length cs
    pub command_is : s.command_mcv ≡ chaining C K.mac cs
    pub response_is : s.response_mcv ≡ chaining C K.rmac rs
    pub ready_is : s.phase ≡ Ready → length cs ≡ length rs
    pub pending_is : s.phase ≡ Pending → length cs ≡ suc (length rs)

  pub record Inv (h c : Session) (t : Transcript) : Type 0 where
    pub host_is : counts_as_open h ≡ true → Live Host h t.commands.wrapped t.responses.accepted
    pub card_is : counts_as_open c ≡ true → Live Card c t.commands.accepted t.responses.wrapped
    pub keeps : kept.Kept (commands C K) (responses C K) t

  command_live : (side : Side) (s : Session) (cs : Log CommandHeader) (rs : Log StatusWord) (x : Entry CommandHeader) (full : Bytes)
      → Live side s cs rs → s.phase ≡ Ready → full ≡ C.mac K.mac x.input → Live side (command_taken s full) (cs ++ x ∷ []) rs
  command_live side s cs rs x full l r w =
      let n : length cs ≡ length rs = l.ready_is r in
      record {
        side_is = l.side_is;
        enc_is = l.enc_is;
        mac_is = l.mac_is;
        rmac_is = l.rmac_is;
        count_is = omega (arith, l.count_is, length-append cs (x ∷ []));
        command_is = w ∙ sym (chaining_snoc C K.mac cs x);
        response_is = l.response_is;
        ready_is = λ p. ready_pending (sym p);
        pending_is = λ p. omega (arith, n, length-append cs (x ∷ []));
      }

  response_live : (side : Side) (s : Session) (cs : Log CommandHeader) (rs : Log StatusWord) (x : Entry StatusWord) (full : Bytes)
      → Live side s cs rs → s.phase ≡ Pending → full ≡ C.mac K.rmac x.input → Live side (response_taken s full) cs (rs ++ x ∷ [])
  response_live side s cs rs x full l r w =
      let n : length cs ≡ suc (length rs) = l.pending_is r in
      record {
        side_is = l.side_is;
        enc_is = l.enc_is;
        mac_is = l.mac_is;
        rmac_is = l.rmac_is;
        count_is = l.count_is;
        command_is = l.command_is;
        response_is = w ∙ sym (chaining_snoc C K.rmac rs x);
        ready_is = λ p. omega (arith, n, length-append rs (x ∷ []));
        pending_is = λ p. ready_pending p;
      }

  -- ---- the host wraps a command

  module _ (h c : Session) (t : Transcript) (m : Command) (room : ℕ) (v : Inv h c t)
      (may : MayWrapCommand h m.header (length m.payload) room) (y : IsBytes m.payload) where
    abbrev w : Entry CommandHeader
    w = wrap_entry (commands C K) m t.commands.wrapped

    host : Live Host h t.commands.wrapped t.responses.accepted
    host = v.host_is may.opened

    command_encrypted : command_ciphertext C h m.payload ≡ (commands C K).encrypt (suc (length t.commands.wrapped)) m.payload
    unfolding command_ciphertext
    command_encrypted =
        ap₂ (λ (k : Bytes) (n : ℕ). C.encrypt k (command_counter n) m.payload) host.enc_is
        (let e : h.count + 1 ≡ suc (length t.commands.wrapped) = omega (arith, host.count_is) in e)

    command_maced : command_mac C h m.header (command_objects (command_ciphertext C h m.payload) m.header.le) ≡ C.mac K.mac w.input
    unfolding command_mac wrap_entry
    command_maced =
        ap₂ (λ (k mcv : Bytes). C.mac k (command_input mcv m.header (command_objects (command_ciphertext C h m.payload) m.header.le)))
        host.mac_is host.command_is
        ∙ ap (λ (x : Bytes). C.mac K.mac ((commands C K).input t.commands.wrapped m.header (command_objects x m.header.le))) command_encrypted

    pub command_wrapped_lem : let o = command_wrapped C h m.header (command_ciphertext C h m.payload) in
        Inv o.next c (noted C K t (wrap_command Host m room) o.gives)
    unfolding noted wrap_entry field_of command_wrapped command_field
    command_wrapped_lem =
        let r : h.phase ≡ Ready = (turn_is Host Ready h may.turn).1 in
        record {
          host_is = λ z. command_live Host h t.commands.wrapped t.responses.accepted w _ host r command_maced;
          card_is = v.card_is;
          keeps =
              kept.command_wrapped_lem (commands C K) (responses C K) t m _ v.keeps (host.ready_is r)
              (channel_wraps (commands C K) t.commands v.keeps.command_channel m _ y (let n = may.short in omega arith)
              (ap₂ (λ (x mac : Bytes). command_objects x m.header.le ++ mac_object (take 8 mac)) command_encrypted command_maced));
        }

  -- ---- the card wraps a response

  module _ (h c : Session) (t : Transcript) (m : Response) (room : ℕ) (v : Inv h c t)
      (may : MayWrapResponse c m.header (length m.payload) room) (y : IsBytes m.payload) where
    abbrev x : Entry StatusWord
    x = wrap_entry (responses C K) m t.responses.wrapped

    card : Live Card c t.commands.accepted t.responses.wrapped
    card = v.card_is may.opened

    outstanding : length t.commands.accepted ≡ suc (length t.responses.wrapped)
    outstanding = card.pending_is (turn_is Card Pending c may.turn).1

    response_encrypted : response_ciphertext C c m.payload ≡ (responses C K).encrypt (suc (length t.responses.wrapped)) m.payload
    unfolding response_ciphertext
    response_encrypted =
        ap₂ (λ (k : Bytes) (n : ℕ). C.encrypt k (response_counter n) m.payload) card.enc_is (card.count_is ∙ outstanding)

    response_maced : response_mac C c (response_objects (response_ciphertext C c m.payload) m.header.sw1 m.header.sw2) ≡ C.mac K.rmac x.input
    unfolding response_mac wrap_entry
    response_maced =
        ap₂ (λ (k mcv : Bytes). C.mac k (response_mac_input mcv ((responses C K).objects m.header (response_ciphertext C c m.payload))))
        card.rmac_is card.response_is
        ∙ ap (λ (z : Bytes). C.mac K.rmac ((responses C K).input t.responses.wrapped m.header ((responses C K).objects m.header z)))
        response_encrypted

    pub response_wrapped_lem : let o = response_wrapped C c m.header (response_ciphertext C c m.payload) in
        Inv h o.next (noted C K t (wrap_response Card m room) o.gives)
    unfolding noted wrap_entry field_of response_wrapped response_field
    response_wrapped_lem =
        record {
          host_is = v.host_is;
          card_is = λ z. response_live Card c t.commands.accepted t.responses.wrapped x _ card (turn_is Card Pending c may.turn).1 response_maced;
          keeps =
              kept.response_wrapped_lem (commands C K) (responses C K) t m _ v.keeps outstanding
              (channel_wraps (responses C K) t.responses v.keeps.response_channel m _ y (let n = may.short in omega arith)
              (ap₂ (λ (z mac : Bytes). response_objects z m.header.sw1 m.header.sw2 ++ mac_object (take 8 mac)) response_encrypted response_maced));
        }

  -- ---- the card accepts a command

  or_collision : {H : Type 0} {P : Type 0} (key : Bytes) (A more W : Log H) → A ++ more ≡ W → P ⊎ Repeated (chaining C key) A W → P ⊎ Collision C key (inputs W)
  or_collision key A more W a (inl p) = inl p
  or_collision key A more W a (inr r) = inr (collision C key A more W a r)

  objects_read_lem : (ins : ℕ) (field : Bytes) (o : Objects) → read_field (command_wanted ins) field ≡ Ok o → command_read ins field ≡ o
  objects_read_lem ins field o e = rw e

  status_read : (sw : StatusWord) (field : Bytes) (o : Objects) → read_field (response_wanted sw) field ≡ Ok o → response_read sw field ≡ o
  status_read sw field o e = rw e

  module _ (L : Laws C) (G : AreKeys K) (h c : Session) (t : Transcript) (header : Header) (field : Bytes) (room : ℕ) (o : Objects) (d : Bytes)
      (v : Inv h c t) (read : CommandRead C c header field room o d) where
    abbrev A : Log CommandHeader
    A = t.commands.accepted

    abbrev m : Command
    m = record { header = header_read header o; payload = d }

    abbrev i : Bytes
    i = command_input (chaining C K.mac A) (header_read header o) (covered_of field o)

    abbrev g : CommandGiven
    g = record { payload = d; le = o.second }

    card_live : Live Card c A t.responses.wrapped
    card_live = v.card_is read.may.opened

    accepted_maced : command_mac C c (header_read header o) (covered_of field o) ≡ C.mac K.mac i
    unfolding command_mac
    accepted_maced =
        ap₂ (λ (k mcv : Bytes). C.mac k (command_input mcv (header_read header o) (covered_of field o))) card_live.mac_is card_live.command_is

    accepted_text : C.decrypt K.enc (command_counter (suc (length A))) (ciphertext_of field o) ≡ Some d
    accepted_text =
        ap₂ (λ (k : Bytes) (n : ℕ). C.decrypt k (command_counter n) (ciphertext_of field o)) (sym card_live.enc_is)
        (let e : suc (length A) ≡ c.count + 1 = omega (arith, card_live.count_is) in e)
        ∙ read.text

    entry_is : accepted_command C K header field g A ≡ record { message = m; input = i }
    unfolding accepted_command
    entry_is =
        ap (λ (q : Objects). record {
          message = m;
          input = command_input (chaining C K.mac A) (header_read header q) (covered_of field q);
        }) (objects_read_lem header.ins field o read.read)

    pub command_accepted_lem : let a = command_accepted c o.second (command_mac C c (header_read header o) (covered_of field o)) d in
        Inv h a.next (noted C K t (unwrap_command Card header field room) a.gives) ⊎ Breaks C K t (unwrap_command Card header field room) a.gives
    unfolding noted command_accepted
    command_accepted_lem =
        go (channel_accepts (commands C K) t.commands v.keeps.command_channel (command_lawful C K L G.enc G.mac) m (ciphertext_of field o)
        (covered_of field o) (λ h c blocks q. command_same (chaining C K.mac A) header field o read.read h c blocks q) accepted_text)
      where
        go : Channel (commands C K) (accepts (record { message = m; input = i }) t.commands)
            ⊎ ((Memᴰ i (inputs t.commands.wrapped) → ⊥) ⊎ Repeated (chaining C K.mac) A t.commands.wrapped)
            → Inv h (command_taken c (command_mac C c (header_read header o) (covered_of field o))) (noted C K t (unwrap_command Card header field room) g)
            ⊎ Breaks C K t (unwrap_command Card header field room) g
        go (inr cause) =
            inr (rw (entry_is, objects_read_lem header.ins field o read.read) (record {
              right = read.right ∙ ap (take 8) accepted_maced;
              cause = or_collision K.mac A v.keeps.command_channel.more t.commands.wrapped v.keeps.command_channel.is cause;
            }))
        go (inl e) =
            inl (rw entry_is (record {
              host_is = v.host_is;
              card_is = λ z.
                  command_live Card c A t.responses.wrapped (record { message = m; input = i }) _ card_live
                  (turn_is Card Ready c read.may.turn).1 accepted_maced;
              keeps = kept.command_accepted_lem (commands C K) (responses C K) t (record { message = m; input = i }) v.keeps e;
            }))

  -- ---- the host accepts a response

  module _ (L : Laws C) (G : AreKeys K) (h c : Session) (t : Transcript) (sw : StatusWord) (field : Bytes) (room : ℕ) (o : Objects) (d : Bytes)
      (v : Inv h c t) (read : ResponseRead C h sw field room o d) where
    abbrev R : Log StatusWord
    R = t.responses.accepted

    abbrev a : Response
    a = record { header = sw; payload = d }

    abbrev j : Bytes
    j = response_mac_input (chaining C K.rmac R) (covered_of field o)

    host_live : Live Host h t.commands.wrapped R
    host_live = v.host_is read.may.opened

    waiting : length t.commands.wrapped ≡ suc (length R)
    waiting = host_live.pending_is (turn_is Host Pending h read.may.turn).1

    response_full : response_mac C h (covered_of field o) ≡ C.mac K.rmac j
    unfolding response_mac
    response_full =
        ap₂ (λ (k mcv : Bytes). C.mac k (response_mac_input mcv (covered_of field o))) host_live.rmac_is host_live.response_is

    response_text : C.decrypt K.enc (response_counter (suc (length R))) (ciphertext_of field o) ≡ Some d
    response_text =
        ap₂ (λ (k : Bytes) (n : ℕ). C.decrypt k (response_counter n) (ciphertext_of field o)) (sym host_live.enc_is) (sym waiting ∙ sym host_live.count_is)
        ∙ read.text

    response_entry : accepted_response C K sw field a R ≡ record { message = a; input = j }
    unfolding accepted_response
    response_entry =
        ap (λ (q : Objects). record { message = a; input = response_mac_input (chaining C K.rmac R) (covered_of field q) })
        (status_read sw field o read.read)

    pub response_accepted_lem : let u = response_accepted h sw (response_mac C h (covered_of field o)) d in
        Inv u.next c (noted C K t (unwrap_response Host sw field room) u.gives) ⊎ Breaks C K t (unwrap_response Host sw field room) u.gives
    unfolding noted response_accepted
    response_accepted_lem =
        go (channel_accepts (responses C K) t.responses v.keeps.response_channel (response_lawful C K L G.enc G.rmac) a (ciphertext_of field o)
        (covered_of field o) (λ u c blocks q. response_same (chaining C K.rmac R) sw field o read.read u c blocks q) response_text)
      where
        go : Channel (responses C K) (accepts (record { message = a; input = j }) t.responses)
            ⊎ ((Memᴰ j (inputs t.responses.wrapped) → ⊥) ⊎ Repeated (chaining C K.rmac) R t.responses.wrapped)
            → Inv (response_taken h (response_mac C h (covered_of field o))) c (noted C K t (unwrap_response Host sw field room) a)
            ⊎ Breaks C K t (unwrap_response Host sw field room) a
        go (inr cause) =
            inr (rw (response_entry, status_read sw field o read.read) (record {
              right = read.right ∙ ap (take 8) response_full;
              cause = or_collision K.rmac R v.keeps.response_channel.more t.responses.wrapped v.keeps.response_channel.is cause;
            }))
        go (inl e) =
            inl (rw response_entry (record {
              host_is = λ z.
                  response_live Host h t.commands.wrapped R (record { message = a; input = j }) _ host_live
                  (turn_is Host Pending h read.may.turn).1 response_full;
              card_is = v.card_is;
              keeps = kept.response_accepted_lem (commands C K) (responses C K) t (record { message = a; input = j }) v.keeps waiting e;
            }))
