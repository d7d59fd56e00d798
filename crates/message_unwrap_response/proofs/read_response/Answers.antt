-- `read_response` meets its contract: the objects are opened, or a breach or a lack refuses them.
use mathlib.Core.Path.{sym, ap, ◌∙◌}
use Rattle.std.specs.Prelude.{Err}
use Rattle.field_expected.specs.declared.Wanted.{Wanted}
use Rattle.field_read.specs.Field.{read_field}
use Rattle.field_laws.proofs.AcceptedRules.{conforms}
use Rattle.message_permission.specs.Permission.{response_wanted}
use Rattle.message_result.specs.Results.{response_result}
use Rattle.message_result.proofs.StageEnds.{stage_goes_on, stage_refused}
use Rattle.message_verify.proofs.Stages.{when_read, when_malformed, when_missing}
use Rattle.message_unwrap_response.specs.UnwrapResponse.{payload_of}
use Rattle.message_unwrap_response.proofs.read_response.Goals as goal

pub open_objects-requires : goal.open_objects-requires
open_objects-requires c =
    let is_read = c.read_field.ensures ∙ ap (λ (w : Wanted). read_field w c.args.field.now) c.response_wanted.ensures in (
      c.requires,
      conforms (response_wanted c.args.status) c.args.field.now _
          (sym is_read ∙ c.in-Ok.is),
    )

pub returns-in-Ok : goal.returns-in-Ok
returns-in-Ok c =
    let a = c.args in
    let is_read = c.read_field.ensures ∙ ap (λ (w : Wanted). read_field w a.field.now) c.response_wanted.ensures in
    let m = stage_goes_on a.session response_result payload_of a.out.now
    (when_read _ _ _ (sym is_read ∙ c.in-Ok.is)) (c.open_objects.ensures.result, c.open_objects.ensures.output) in
    record { result = m.0; output = m.1 }

pub returns-in-Err-Malformed : goal.returns-in-Err-Malformed
returns-in-Err-Malformed c =
    let a = c.args in
    let is_read = c.read_field.ensures ∙ ap (λ (w : Wanted). read_field w a.field.now) c.response_wanted.ensures in
    let m = stage_refused a.session response_result payload_of a.out.now
    (when_malformed _ _ _ (sym is_read ∙ c.in-Err-Malformed.is ∙ ap Err c.in-Err-Malformed.field-0-is)) c.refused.ensures in
    record { result = m.0; output = m.1 }

pub returns-in-Err-Missing : goal.returns-in-Err-Missing
returns-in-Err-Missing c =
    let a = c.args in
    let is_read = c.read_field.ensures ∙ ap (λ (w : Wanted). read_field w a.field.now) c.response_wanted.ensures in
    let m = stage_refused a.session response_result payload_of a.out.now
    (when_missing _ _ _ _ (sym is_read ∙ c.in-Err-Missing.is ∙ ap Err c.in-Err-Missing.field-0-is)) c.refused-in-Err-Missing.ensures in
    record { result = m.0; output = m.1 }
