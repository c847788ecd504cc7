-- The sizes once the pending group is written, and all before it in its place.
use Rattle.std.specs.Prelude.{◌≡◌, ℕ, ◌+◌, ◌-◌, List, length, take, drop}
use mathlib.Core.Path.{◌∙◌}
use native.Mathlib.Omega.{arith}
use lib.Seq.{take_all}
use Rattle.buffers.specs.InnerOver.{over}
use Rattle.record.specs.Layout.{start_of_text}
use Rattle.emitter.specs.declared.inner.Emitter.{Emitter}
use Rattle.places.specs.InnerOps.{one, relocated}
use Rattle.extend.specs.InnerExtending.{closed_of}

-- ---- `closed`

module _ (f : Emitter) where
  pub closes : {x y z : ℕ} → x ≡ one f.ins → y ≡ one f.del → z ≡ one f.ret
      → record { ins = 0; del = 0; ret = 0; ops = f.ops + x + y + z; text = f.text; base = f.base; target = f.target } ≡ closed_of f
  closes p q r = rw (p, q, r)

-- ---- `settle_with`

pub settles_with : (m n k t at : ℕ) (r u o : List ℕ) {o₁ o₂ : List ℕ} → at ≡ start_of_text n → o₁ ≡ relocated m n k t r o → o₂ ≡ over (at + t) (take (length u - 0) (drop 0 u)) o₁ → o₂ ≡ over (start_of_text n + t) u (relocated m n k t r o)
settles_with m n k t at r u o p q w =
    let z = take_all (length u - 0) u (omega arith) in
    w ∙ (λ i. over (p i + t) (z i) (q i))
