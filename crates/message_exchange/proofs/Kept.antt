-- What a transcript keeps, whatever the sessions are: each call that is not refused keeps it, and it is agreement.
use mathlib.Core.Path.{◌≡◌}
use mathlib.Core.List.{[], ◌∷◌}
use Prim.Native.Nat.{suc, ◌+◌, ◌≤◌}
use native.Mathlib.Omega.{arith}
use lib.ListN.{length, length-append}
use Rattle.octets.specs.Bytes.{Bytes}
use Rattle.message_answer.specs.Message.{Message}
use Rattle.message_exchange.specs.Exchange.{Entry, Direction, wrap_entry, wraps, accepts, Transcript, empty, Agrees}
use Rattle.message_exchange.proofs.Channel.{Channel, channel_empty, channel_length, channel_messages}

module _ {H R : Type 0} (commands : Direction H) (responses : Direction R) where
  pub record Kept (t : Transcript H R) : Type 0 where
    pub s≤a : length t.responses.wrapped ≤ length t.commands.accepted
    pub w≤r+1 : length t.commands.wrapped ≤ length t.responses.accepted + 1
    pub command_channel : Channel commands t.commands
    pub response_channel : Channel responses t.responses

  pub kept_empty : Kept empty
  kept_empty =
      record { s≤a = omega arith; w≤r+1 = omega arith; command_channel = channel_empty commands; response_channel = channel_empty responses }

  pub kept_agrees : (t : Transcript H R) → Kept t → Agrees commands responses t
  kept_agrees t v =
      record {
        r≤s = channel_length responses t.responses v.response_channel;
        s≤a = v.s≤a;
        a≤w = channel_length commands t.commands v.command_channel;
        w≤r+1 = v.w≤r+1;
        commands_agree = channel_messages commands t.commands v.command_channel;
        responses_agree = channel_messages responses t.responses v.response_channel;
        commands_written = v.command_channel.written;
        responses_written = v.response_channel.written;
      }

  -- a command is wrapped when each has its response
  pub command_wrapped_lem : (t : Transcript H R) (m : Message H) (field : Bytes) → Kept t
      → length t.commands.wrapped ≡ length t.responses.accepted → Channel commands (wraps commands m field t.commands)
      → Kept (record { commands = wraps commands m field t.commands; responses = t.responses })
  command_wrapped_lem t m field v n e =
      record {
        s≤a = v.s≤a;
        w≤r+1 = omega (arith, n, length-append t.commands.wrapped (wrap_entry commands m t.commands.wrapped ∷ []));
        command_channel = e;
        response_channel = v.response_channel;
      }

  pub command_accepted_lem : (t : Transcript H R) (x : Entry H) → Kept t → Channel commands (accepts x t.commands)
      → Kept (record { commands = accepts x t.commands; responses = t.responses })
  command_accepted_lem t x v e =
      record {
        s≤a = omega (arith, v.s≤a, length-append t.commands.accepted (x ∷ []));
        w≤r+1 = v.w≤r+1;
        command_channel = e;
        response_channel = v.response_channel;
      }

  -- a response is wrapped when an accepted command has none
  pub response_wrapped_lem : (t : Transcript H R) (m : Message R) (field : Bytes) → Kept t
      → length t.commands.accepted ≡ suc (length t.responses.wrapped) → Channel responses (wraps responses m field t.responses)
      → Kept (record { commands = t.commands; responses = wraps responses m field t.responses })
  response_wrapped_lem t m field v n e =
      record {
        s≤a = omega (arith, n, length-append t.responses.wrapped (wrap_entry responses m t.responses.wrapped ∷ []));
        w≤r+1 = v.w≤r+1;
        command_channel = v.command_channel;
        response_channel = e;
      }

  -- and accepted when a wrapped command has none
  pub response_accepted_lem : (t : Transcript H R) (x : Entry R) → Kept t → length t.commands.wrapped ≡ suc (length t.responses.accepted)
      → Channel responses (accepts x t.responses) → Kept (record { commands = t.commands; responses = accepts x t.responses })
  response_accepted_lem t x v n e =
      record {
        s≤a = v.s≤a;
        w≤r+1 = omega (arith, n, length-append t.responses.accepted (x ∷ []));
        command_channel = v.command_channel;
        response_channel = e;
      }
