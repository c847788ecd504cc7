-- What it says of a record that no fault is found in it.
use Prim.Native.Nat.{ℕ, ◌≤◌}
use mathlib.Core.List.{List}
use lib.ListN.{length}
use mathlib.Core.Logic.{◌↔◌}
use lib.Dec.{T, leb→le, le→leb, leb, eqb→eq}
use mathlib.Core.Path.{◌≡◌, refl, ◌∙◌}
use mathlib.Core.Bool.{Bool, true, false}
use borrow.Author.Tests.{le-leb}
use Rattle.buffers.specs.Lists.{all_of}
use Rattle.buffers.proofs.Tests.{le_and, both, eq_and, equal_T}
use Rattle.edits.specs.Op.{total, base}
use Rattle.edits.specs.Built.{chained}
use Rattle.answers.proofs.Refusals.{needs_out, needs_in}
use Rattle.record.specs.Layout.{op_count_of, text_bytes_of, base_of, target_of, size_of, max_ops, max_size}
use Rattle.record.specs.Record.{is_within_limits, entries, byte_ops, sound_entry, insert_bytes, sound, well_inserted, gives_chars, adds, record_fault}

pub record InLimits (r : List ℕ) : Type 0 where
  pub header : 8 ≤ length r
  pub ops : op_count_of r ≤ max_ops
  pub text_bytes : text_bytes_of r ≤ max_size
  pub bases : base_of r ≤ max_size
  pub targets : target_of r ≤ max_size
  pub whole : size_of r ≤ length r

pub limits : (r : List ℕ) → T (is_within_limits r) ↔ InLimits r
unfolding is_within_limits
limits r = (
  λ h.
      let (a, h₁) = (le_and 8 (length r) _).0 h in
      let (b, h₂) = (le_and (op_count_of r) max_ops _).0 h₁ in
      let (c, h₃) = (le_and (text_bytes_of r) max_size _).0 h₂ in
      let (d, h₄) = (le_and (base_of r) max_size _).0 h₃ in
      let (e, f) = (le_and (target_of r) max_size _).0 h₄ in
      record { header = a; ops = b; text_bytes = c; bases = d; targets = e; whole = leb→le (size_of r) (length r) f },
  λ l.
      (le_and 8 (length r) _).1 (
        l.header,
        (le_and (op_count_of r) max_ops _).1 (
          l.ops,
          (le_and (text_bytes_of r) max_size _).1 (
            l.text_bytes,
            (le_and (base_of r) max_size _).1
                (l.bases, (le_and (target_of r) max_size _).1 (l.targets, le→leb (size_of r) (length r) l.whole)),
          ),
        ),
      ),
)

pub limits_false : (r : List ℕ) → (InLimits r → ⊥) → false ≡ is_within_limits r
limits_false r h = go (is_within_limits r) (λ t. h ((limits r).0 t))
  where
    go : (b : Bool) → (T b → ⊥) → false ≡ b
    go true k = absurd (k tt)
    go false k = refl

pub limits_last : (r : List ℕ) {z : ℕ} → 8 ≤ length r → op_count_of r ≤ max_ops → text_bytes_of r ≤ max_size → base_of r ≤ max_size → target_of r ≤ max_size → z ≡ size_of r → leb z (length r) ≡ is_within_limits r
unfolding is_within_limits
limits_last r a b c d e f =
    rw (f, le-leb 8 (length r) a, le-leb (op_count_of r) max_ops b, le-leb (text_bytes_of r) max_size c, le-leb (base_of r) max_size d, le-leb (target_of r) max_size e)

pub record Faultless (r : List ℕ) : Type 0 where
  pub in_limits : T (is_within_limits r)
  pub sound : T (all_of sound_entry (entries r))
  pub adds_up : insert_bytes (entries r) ≡ text_bytes_of r
  pub texts : T (all_of well_inserted (byte_ops r))
  pub chain : T (chained (byte_ops r))
  pub base_is : base (byte_ops r) ≡ base_of r
  pub target_is : total gives_chars (byte_ops r) ≡ target_of r

pub faultless : (r : List ℕ) → (record_fault r ≡ 0) ↔ Faultless r
unfolding record_fault
faultless r = (
  λ z.
      let (a, z₁) = needs_out (is_within_limits r) _ _ z in
      let (b, z₂) = needs_out (sound r) _ _ z₁ in
      let (c, z₃) = needs_out (all_of well_inserted (byte_ops r)) _ _ z₂ in
      let (d, z₄) = needs_out (chained (byte_ops r)) _ _ z₃ in
      let (e, z₅) = needs_out (adds r) _ _ z₄ in
      let b₂ = (both (all_of sound_entry (entries r)) _).0 (unfold sound in b) in
      let e₂ = (eq_and (base (byte_ops r)) (base_of r) _).0 (unfold adds in e) in
      record {
        in_limits = a;
        sound = b₂.0;
        adds_up = eqb→eq (insert_bytes (entries r)) (text_bytes_of r) b₂.1;
        texts = c;
        chain = d;
        base_is = e₂.0;
        target_is = eqb→eq (total gives_chars (byte_ops r)) (target_of r) e₂.1;
      },
  λ f.
      needs_in (is_within_limits r) _ _ f.in_limits
      ∙ needs_in (sound r) _ _ (unfold sound in (both (all_of sound_entry (entries r)) _).1 (f.sound, equal_T f.adds_up))
      ∙ needs_in (all_of well_inserted (byte_ops r)) _ _ f.texts
      ∙ needs_in (chained (byte_ops r)) _ _ f.chain
      ∙ needs_in (adds r) _ 0 (unfold adds in (eq_and (base (byte_ops r)) (base_of r) _).1 (f.base_is, equal_T f.target_is)),
)
