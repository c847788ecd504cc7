-- The bytes from a place on, as far as they pass a test.
use Rattle.std.specs.Prelude.{◌≡◌, ℕ, ◌+◌, ◌-◌, ◌≤◌, Bool, List, length, drop}
use Rattle.std.specs.List.{prefix_len}
use Rattle.std.proofs.Common.{arith}
use Rattle.std.proofs.lemmas.List.Sums.{prefix_len-le-length, prefix_len_stops}
use lib.ListN.{length-drop}
use lib.Seq.{get_or-drop}
use Rattle.buffers.proofs.Fronts.{all_front}
use Rattle.json_lists.specs.InnerRuns.{Run}

pub run_front : (p : ℕ → Bool) (t : List ℕ) (at : ℕ) → at ≤ length t → Run p t at (at + prefix_len p (drop at t))
run_front p t at h =
    let l = drop at t in
    let n = prefix_len p l in
    let z : at + n - at ≡ n = omega arith in
    let m : n ≤ length l = prefix_len-le-length p l in
    let d : length l ≡ length t - at = length-drop at t in
    record {
      above = omega arith;
      below = omega arith;
      all = rw z (all_front p l);
      stops = λ s. rw get_or-drop at (prefix_len_stops p l 0 (omega arith));
    }
