use Rattle.std.proofs.Common.{◌≡◌, ◌-◌, length, drop, arith}
use Rattle.std.specs.List.{prefix_len}
use lib.ListN.{length-drop}
use lib.Seq.{take_all}
use Rattle.json_lists.specs.Form.{is_white_space}
use Rattle.json_lists.proofs.Fronts.{run_front}
use Rattle.json_values.proofs.inner.after_spaces.Goals as goal

pub overflow_add-result : goal.overflow_add-result
overflow_add-result c = let t = c.args.list.now in let i = c.args.at in
    let e : c.spaces.result ≡ prefix_len is_white_space (drop i t) = rw (take_all (length t - i) (drop i t) (simp length-drop (omega arith))) at c.spaces.ensures in
    let r = run_front is_white_space t i c.requires in
    omega (arith, r.below)

pub returns : goal.returns
returns c = let t = c.args.list.now in let i = c.args.at in
    let e : c.spaces.result ≡ prefix_len is_white_space (drop i t) = rw (take_all (length t - i) (drop i t) (simp length-drop (omega arith))) at c.spaces.ensures in
    rw e (run_front is_white_space t i c.requires)
