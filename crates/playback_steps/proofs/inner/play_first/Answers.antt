use Rattle.std.specs.Prelude.{◌≡◌, false, not}
use Rattle.playback_steps.proofs.Stages.{run_other, run_short, run_room, run_well, run_chars, run_ends}
use borrow.Author.Rules.{rules}
use Rattle.playback_steps.proofs.inner.play_first.Goals as goal

pub returns-then-b-text : goal.returns-then-b-text
returns-then-b-text c = search run_other

pub returns-then-not-store_text : goal.returns-then-not-store_text
returns-then-not-store_text c = search run_short

pub play_revisions-requires : goal.play_revisions-requires
play_revisions-requires c = let a = c.args in
    let k = c.store_text in
    let q : not k.result ≡ false = search rules in
    let t = a.text.now in
    let s = a.a.now in (
      search rules,
      search rules,
      run_room t s k.new.a k.result k.ensures q,
      search rules,
      run_well t s k.new.a k.result k.ensures q (search rules),
      run_chars t s k.new.a k.result k.ensures q _ (search rules),
    )

pub returns : goal.returns
returns c = search run_ends
