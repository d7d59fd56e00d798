-- For all arguments of a call there is a call that ran with these arguments: what the definition of its name gives meets the generated contract. So the
-- demands are about something, whatever the arguments; and each argument stands in the place of its name.
use mathlib.Core.Path.{◌≡◌, refl}
use mathlib.Core.List.{[]}
use Prim.Native.Nat.{ℕ}
use Rattle.octets.specs.Bytes.{Bytes, IsBytes}
use Rattle.capi_fragment_command.specs.Call as FragmentCommand
use Rattle.capi_reassemble_command.specs.Call as ReassembleCommand
use Rattle.capi_fragment_response.specs.Call as FragmentResponse
use Rattle.capi_reassemble_response.specs.Call as ReassembleResponse
use Rattle.capi_get_response.specs.Call as GetResponse
use Rattle.demand_capi_chaining.specs.Calls.{FragmentsCommand, fragment_command_given, ReassemblesCommand, reassemble_command_given, FragmentsResponse, fragment_response_given, ReassemblesResponse, reassemble_response_given, GetsResponse, get_response_given}
use denote.Ref.{at_last}
use Rattle.demand_capi_chaining.proofs.Below.{to, lent}

module _ (ins p1 p2 : ℕ) (field : Bytes) (size number : ℕ) (apdu : Bytes) where
  abbrev pub fragments-command : FragmentsCommand
  fragments-command =
      let l = FragmentCommand.pivsm_fragment_command (FragmentCommand.given ins p1 p2 field size number apdu) in
      record {
        κs = ([], ([], ([], tt)));
        args = (ins, (p1, (p2, (to field, (size, (number, (lent apdu, (lent 0, tt))))))));
        result = l.number;
        exit = (ins, (p1, (p2, (to field, (size, (number, (at_last (lent apdu) l.apdu, (at_last (lent 0) l.written, tt))))))));
        met = refl;
      }

  pub fragments_command_given : fragment_command_given fragments-command ≡ FragmentCommand.given ins p1 p2 field size number apdu
  fragments_command_given = refl

module _ (chain : ℕ) (apdu field : Bytes) (b : IsBytes apdu) where
  abbrev pub reassembles-command : ReassemblesCommand
  reassembles-command =
      let l = ReassembleCommand.pivsm_reassemble_command (ReassembleCommand.given chain apdu field) in
      record {
        κs = ([], ([], ([], ([], ([], ([], ([], ([], tt))))))));
        args = (lent chain, (to apdu, (lent field, (lent 0, (lent 0, (lent 0, (lent 0, (lent 0, tt))))))));
        result = l.number;
        exit = (at_last (lent chain) l.chain, (to apdu, (at_last (lent field) l.field, (at_last (lent 0) l.written, (at_last (lent 0) l.sw, (at_last (lent 0) l.ins, (at_last (lent 0) l.p1, (at_last (lent 0) l.p2, tt))))))));
        met = (refl, b);
      }

  pub reassembles_command_given : reassemble_command_given reassembles-command ≡ ReassembleCommand.given chain apdu field
  reassembles_command_given = refl

  abbrev pub reassembles-response : ReassemblesResponse
  reassembles-response =
      let l = ReassembleResponse.pivsm_reassemble_response (ReassembleResponse.given chain apdu field) in
      record {
        κs = ([], ([], ([], ([], ([], tt)))));
        args = (lent chain, (to apdu, (lent field, (lent 0, (lent 0, tt)))));
        result = l.number;
        exit = (at_last (lent chain) l.chain, (to apdu, (at_last (lent field) l.field, (at_last (lent 0) l.written, (at_last (lent 0) l.sw, tt)))));
        met = (refl, b);
      }

  pub reassembles_response_given : reassemble_response_given reassembles-response ≡ ReassembleResponse.given chain apdu field
  reassembles_response_given = refl

module _ (sw : ℕ) (field : Bytes) (at le : ℕ) (apdu : Bytes) where
  abbrev pub fragments-response : FragmentsResponse
  fragments-response =
      let l = FragmentResponse.pivsm_fragment_response (FragmentResponse.given sw field at le apdu) in
      record {
        κs = ([], ([], ([], ([], tt))));
        args = (sw, (to field, (at, (le, (lent apdu, (lent 0, (lent 0, tt)))))));
        result = l.number;
        exit = (sw, (to field, (at, (le, (at_last (lent apdu) l.apdu, (at_last (lent 0) l.written, (at_last (lent 0) l.next, tt)))))));
        met = refl;
      }

  pub fragments_response_given : fragment_response_given fragments-response ≡ FragmentResponse.given sw field at le apdu
  fragments_response_given = refl

module _ (le : ℕ) (apdu : Bytes) where
  abbrev pub gets-response : GetsResponse
  gets-response =
      let l = GetResponse.pivsm_get_response (GetResponse.given le apdu) in
      record {
        κs = ([], ([], tt));
        args = (le, (lent apdu, (lent 0, tt)));
        result = l.number;
        exit = (le, (at_last (lent apdu) l.apdu, (at_last (lent 0) l.written, tt)));
        met = refl;
      }

  pub gets_response_given : get_response_given gets-response ≡ GetResponse.given le apdu
  gets_response_given = refl
