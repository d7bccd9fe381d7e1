use Rattle.std.proofs.Common.{◌≡◌, [], ◌++◌, take}
use Rattle.run_setting.specs.Hashed.{hashed}
use Rattle.sync_model.specs.Report.{pass_number, key_numbers}
use Rattle.report_lines.proofs.values.write_keys.Given as goal

abbrev pub invariant-loop-key : goal.invariant-loop-key
invariant-loop-key l = l.out.items ≡ l.fn.out.items ++ key_numbers hashed (pass_number hashed []) (take l.key-index l.keys)
