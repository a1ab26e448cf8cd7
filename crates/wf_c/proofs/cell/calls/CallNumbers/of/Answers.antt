-- Proves that `CallNumbers::of` has a value for each argument.
use Rattle.std.proofs.Common.{ap, sym, ◌∙◌, length}
use Rattle.wf_frame.specs.Calls.{arguments_of}
use Rattle.wf_frame.specs.declared.calls.CallForm.{CallForm}
use Rattle.wf_c.proofs.CallLengths.{as_many}
use Rattle.wf_c.proofs.cell.calls.CallNumbers.of.Goals as goal

pub of_values-requires : goal.of_values-requires
of_values-requires c = record {
  same =
      ap length c.arguments.ensures.arguments
      ∙ ap (λ (f : CallForm). length (arguments_of f)) c.form-form.ensures
      ∙ as_many c.args.note ∙ sym (ap length (c.as_slice.ensures.value ∙ c.values-values.ensures.values));
}
