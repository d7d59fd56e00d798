-- The names of a call's arguments and of what it leaves stand where its contract has them: what it left is what the definition of its own name gives.
-- A name in another's place would make one of these lines false.
use mathlib.Core.Path.{◌≡◌}
use Rattle.capi_open.specs.Call.{pivsm_open_host, pivsm_open_card}
use Rattle.capi_close.specs.Call.{pivsm_close}
use Rattle.capi_wrap_command.specs.Call.{pivsm_wrap_command}
use Rattle.capi_unwrap_command.specs.Call.{pivsm_unwrap_command}
use Rattle.capi_wrap_response.specs.Call.{pivsm_wrap_response}
use Rattle.capi_unwrap_response.specs.Call.{pivsm_unwrap_response}
use Rattle.demand_capi.specs.Calls.{OpensHost, open_host_given, open_host_left, OpensCard, open_card_given, open_card_left, Closes, close_given, close_left, WrapsCommand, wrap_command_given, wrap_command_left, UnwrapsCommand, unwrap_command_given, unwrap_command_left, WrapsResponse, wrap_response_given, wrap_response_left, UnwrapsResponse, unwrap_response_given, unwrap_response_left}

pub open_host_told : (c : OpensHost) → open_host_left c ≡ pivsm_open_host (open_host_given c)
open_host_told c = c.met.0

pub open_card_told : (c : OpensCard) → open_card_left c ≡ pivsm_open_card (open_card_given c)
open_card_told c = c.met.0

pub close_told : (c : Closes) → close_left c ≡ pivsm_close (close_given c)
close_told c = c.met.0

pub wrap_command_told : (c : WrapsCommand) → wrap_command_left c ≡ pivsm_wrap_command (wrap_command_given c)
wrap_command_told c = c.met.0

pub unwrap_command_told : (c : UnwrapsCommand) → unwrap_command_left c ≡ pivsm_unwrap_command (unwrap_command_given c)
unwrap_command_told c = c.met.0

pub wrap_response_told : (c : WrapsResponse) → wrap_response_left c ≡ pivsm_wrap_response (wrap_response_given c)
wrap_response_told c = c.met.0

pub unwrap_response_told : (c : UnwrapsResponse) → unwrap_response_left c ≡ pivsm_unwrap_response (unwrap_response_given c)
unwrap_response_told c = c.met.0
