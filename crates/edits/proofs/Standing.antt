-- What stands keeps its order: two characters that both stand in the author's text after the edit and in the text that ships
-- stand there in the same order.
use Prim.Native.Nat.{ℕ, zero, suc}
use mathlib.Core.Path.{◌≡◌, refl, sym, ap, ap₂, ◌∙◌, subst, subst₃}
use mathlib.Core.Bool.{true}
use mathlib.Core.Option.{Option, none, some}
use mathlib.Core.List.Sublistᴰ
use mathlib.Core.List.{List, [], ◌∷◌, ◌++◌, map, Sublistᴰ}
use lib.ListN.{length, take, drop, replicate, take-append-drop}
use Rattle.characters.specs.Text.{Char}
use Rattle.edits.specs.Op.{Op, retain, insert, delete, base}
use Rattle.edits.specs.Sequence.{Seq}
use Rattle.edits.specs.Apply.{apply}
use Rattle.edits.specs.Trace.{typed, stays, marked, carry}
use Rattle.edits.specs.Origins.{origins, origins_all, standing, Names, end, new, old}
use Rattle.edits.proofs.Marks.{marked_retain, marked_delete}
use Rattle.edits.proofs.Together.{Mixed, apply_mixes}
use Rattle.edits.proofs.Theorems.{A', B', tp1, typed_right, stays_right}

-- ---- labels

module _ {D : Type 0} where
  standing_append : (ks ls : List (Option D)) → standing (ks ++ ls) ≡ standing ks ++ standing ls
  standing_append [] ls = refl
  standing_append (none ∷ ks) ls = standing_append ks ls
  standing_append (some d ∷ ks) ls = ap (λ x. d ∷ x) (standing_append ks ls)

  standing_split : (n : ℕ) (ls : List (Option D)) → standing ls ≡ standing (take n ls) ++ standing (drop n ls)
  standing_split n ls = ap standing (sym (take-append-drop n ls)) ∙ standing_append (take n ls) (drop n ls)

  standing_new : (n : ℕ) (ls : List (Option D)) → standing (replicate n none ++ ls) ≡ standing ls
  standing_new zero ls = refl
  standing_new (suc n) ls = standing_new n ls

  all_stand : (l : List D) → standing (map some l) ≡ l
  all_stand [] = refl
  all_stand (d ∷ l) = ap (λ x. d ∷ x) (all_stand l)

  take_map : (n : ℕ) (l : List D) → take n (map some l) ≡ map some (take n l)
  take_map zero l = refl
  take_map (suc n) [] = refl
  take_map (suc n) (d ∷ l) = ap (λ x. some d ∷ x) (take_map n l)

  drop_map : (n : ℕ) (l : List D) → drop n (map some l) ≡ map some (drop n l)
  drop_map zero l = refl
  drop_map (suc n) [] = refl
  drop_map (suc n) (d ∷ l) = drop_map n l

  sub_behind : (k : List D) {l m : List D} → Sublistᴰ l m → Sublistᴰ (k ++ l) (k ++ m)
  sub_behind [] s = s
  sub_behind (d ∷ k) s = Sublistᴰ.cons-cons refl (sub_behind k s)

  sub_before : (k : List D) {l m : List D} → Sublistᴰ l m → Sublistᴰ l (k ++ m)
  sub_before [] s = s
  sub_before (d ∷ k) s = Sublistᴰ.cons (sub_before k s)

module _ {C D : Type 0} where
  -- after an edit the labels that stand do so in their order
  pub order_kept : (s : List (Op C)) (ls : List (Option D)) → Sublistᴰ (standing (origins s ls)) (standing ls)
  order_kept [] ls = none_of (standing ls)
    where
      none_of : (l : List D) → Sublistᴰ [] l
      none_of [] = Sublistᴰ.slnil
      none_of (d ∷ l) = Sublistᴰ.cons (none_of l)
  order_kept (retain n ∷ s) ls =
      rw (standing_append (take n ls) (origins s (drop n ls)), standing_split n ls) (sub_behind (standing (take n ls)) (order_kept s (drop n ls)))
  order_kept (insert x ∷ s) ls = rw (standing_new (length x) (origins s ls)) (order_kept s ls)
  order_kept (delete n ∷ s) ls = rw (standing_split n ls) (sub_before (standing (take n ls)) (order_kept s (drop n ls)))

  pub order_kept_all : (es : List (List (Op C))) (ls : List (Option D)) → Sublistᴰ (standing (origins_all es ls)) (standing ls)
  order_kept_all [] ls = Sublistᴰ.refl (standing ls)
  order_kept_all (e ∷ es) ls = Sublistᴰ.trans (order_kept_all es (origins e ls)) (order_kept e ls)

  -- of a text with a label at each character, just the labels of those that stay
  pub standing_stays : (s : List (Op C)) (ds : List D) → standing (origins s (map some ds)) ≡ marked (stays s) ds
  standing_stays [] ds = refl
  standing_stays (retain n ∷ s) ds =
      standing_append (take n (map some ds)) (origins s (drop n (map some ds)))
      ∙ ap₂ (λ x y. standing x ++ standing (origins s y)) (take_map n ds) (drop_map n ds)
      ∙ ap₂ ◌++◌ (all_stand (take n ds)) (standing_stays s (drop n ds)) ∙ sym (marked_retain n (stays s) ds)
  standing_stays (insert x ∷ s) ds = standing_new (length x) (origins s (map some ds)) ∙ standing_stays s ds
  standing_stays (delete n ∷ s) ds = ap (λ y. standing (origins s y)) (drop_map n ds) ∙ standing_stays s (drop n ds) ∙ sym (marked_delete n (stays s) ds)

-- ---- labels name their characters, after an edit as before it

module _ {C D : Type 0} (char : D → C) where
  names_append : {ks ls : List (Option D)} {t u : List C} → Names char ks t → Names char ls u → Names char (ks ++ ls) (t ++ u)
  names_append end q = q
  names_append (new p) q = new (names_append p q)
  names_append (old e p) q = old e (names_append p q)

  names_take : (n : ℕ) {ls : List (Option D)} {t : List C} → Names char ls t → Names char (take n ls) (take n t)
  names_take zero p = end
  names_take (suc n) end = end
  names_take (suc n) (new p) = new (names_take n p)
  names_take (suc n) (old e p) = old e (names_take n p)

  names_drop : (n : ℕ) {ls : List (Option D)} {t : List C} → Names char ls t → Names char (drop n ls) (drop n t)
  names_drop zero p = p
  names_drop (suc n) end = end
  names_drop (suc n) (new p) = names_drop n p
  names_drop (suc n) (old e p) = names_drop n p

  names_new : (x : List C) → Names char (replicate (length x) none) x
  names_new [] = end
  names_new (c ∷ x) = new (names_new x)

  pub names_apply : (s : List (Op C)) {ls : List (Option D)} {t : List C} → Names char ls t → Names char (origins s ls) (apply s t)
  names_apply [] p = end
  names_apply (retain n ∷ s) p = names_append (names_take n p) (names_apply s (names_drop n p))
  names_apply (insert x ∷ s) p = names_append (names_new x) (names_apply s p)
  names_apply (delete n ∷ s) p = names_apply s (names_drop n p)

-- ---- the author's text and what ships

-- the labels of one text, and those of another to which it came: they name their characters, and stand in their order
pub record InOrder {D : Type 0} (char : D → Char) (before after : List (Option D)) (text : List Char) : Type 0 where
  pub names : Names char after text
  pub order : Sublistᴰ (standing after) (standing before)

-- transform: `a` is the author's edit, and what ships is A' on the server's text
module _ (a b : Seq) (agree : base a ≡ base b) (t : List Char) (fits : length t ≡ base a) where
  -- the author's own text, less what `b` deletes and in its order, with what `b` types put in
  pub ships : Mixed (typed b) (marked (carry true a (stays b)) (apply a t)) (apply (A' a b) (apply b t))
  ships = subst₃ Mixed (typed_right a b) (ap (λ ms. marked ms (apply a t)) (stays_right a b agree)) (tp1 a b agree t fits) (apply_mixes (B' a b) (apply a t))

  pub transform_in_order : {D : Type 0} (char : D → Char) (ls : List (Option D)) → Names char ls (apply a t) → InOrder char ls (origins (B' a b) ls) (apply (A' a b) (apply b t))
  transform_in_order char ls p = record {
    names = subst (Names char (origins (B' a b) ls)) (tp1 a b agree t fits) (names_apply char (B' a b) p);
    order = order_kept (B' a b) ls;
  }
