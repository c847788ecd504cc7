-- Logs: what is written is read again, and what can be read is what was written.
use Rattle.std.specs.Prelude.{◌≡◌, ℕ, zero, suc, ◌+◌, ◌≤◌, T, eqb, List, [], ◌∷◌, ◌++◌, map, length, take, drop}
use mathlib.Core.List.{append_assoc, append-nil}
use lib.ListN.{length-append, take-append-drop}
use mathlib.Core.Path.{refl, sym, ap, ap₂, ◌∙◌}
use lib.Seq.{drop_at, take_at, length-take-le, take-length, get_or-drop, take-add}
use native.Mathlib.Omega.{arith}
use Rattle.buffers.specs.Words.{words}
use Rattle.buffers.proofs.Tests.{both, equal_T, le_and, eq_and}
use Rattle.edits.specs.Sequence.{Seq}
use Rattle.edits.specs.Op.{target}
use Rattle.record.specs.Layout.{size_of, base_of, target_of, max_size}
use Rattle.record.specs.Record.{encode, record_fault}
use Rattle.record.proofs.Sequences.{Good}
use Rattle.record.proofs.Records.{size_encode, ops_encode, target_encode, base_encode, fault_encode, Bytes, ops_good, ops_base, ops_target, encode_ops, words_at, joined}
use Rattle.session_log.specs.Log.{encode_all, edits_in, sizes_in, length_in, records_in, readable_from, log_of, records_start, count_of, start_of, readable, place_of, size_of_log, length_at, contents, revisions, max_revisions}
use Rattle.session_log.proofs.Rows.{Each, Row, length_after}
use Rattle.session_log.proofs.Scanning.{edits_length}

-- a starting length and edits that a log can hold
pub record Sound (start : ℕ) (edits : List Seq) : Type 0 where
  pub starts : start ≤ max_size
  pub counts : length edits ≤ 256
  pub good : Each Good edits
  pub row : Row start edits

-- ---- records end to end

pub encode_all_append : (es vs : List Seq) → encode_all (es ++ vs) ≡ encode_all es ++ encode_all vs
unfolding encode_all
encode_all_append [] vs = refl
encode_all_append (e ∷ es) vs = rw (encode_all_append es vs, append_assoc)

module _ (e : Seq) (es : List Seq) (more : List ℕ) where
  split : encode_all (e ∷ es) ++ more ≡ encode e ++ (encode_all es ++ more)
  unfolding encode_all
  split = append_assoc (encode e) (encode_all es) more

  behind : drop (size_of (encode e ++ (encode_all es ++ more))) (encode e ++ (encode_all es ++ more)) ≡ encode_all es ++ more
  behind = drop_at (encode e) _ _ (sym (size_encode e (encode_all es ++ more)))

pub edits_all : (es : List Seq) (more : List ℕ) → edits_in (length es) (encode_all es ++ more) ≡ es
unfolding edits_in
edits_all [] more = refl
edits_all (e ∷ es) more = rw (split e es more, behind e es more, ops_encode e (encode_all es ++ more), edits_all es more)

pub sizes_all : (es : List Seq) (more : List ℕ) → sizes_in (length es) (encode_all es ++ more) ≡ length (encode_all es)
unfolding encode_all
sizes_all [] more = refl
sizes_all (e ∷ es) more =
    rw (split e es more, behind e es more, size_encode e (encode_all es ++ more), sizes_all es more, length-append (encode e) (encode_all es))

pub lengths_all : (n : ℕ) (es : List Seq) (more : List ℕ) → length_in (length es) n (encode_all es ++ more) ≡ length_after n es
lengths_all n [] more = refl
lengths_all n (e ∷ es) more =
    ap (length_in (suc (length es)) n) (split e es more)
    ∙ ap₂ (λ k l. length_in (length es) k l) (target_encode e (encode_all es ++ more)) (behind e es more) ∙ lengths_all (target e) es more

pub records_all : (es : List Seq) (more : List ℕ) → records_in (length es) (encode_all es ++ more) ≡ map encode es
records_all [] more = refl
records_all (e ∷ es) more =
    rw (split e es more, behind e es more, take_at (encode e) _ _ (sym (size_encode e (encode_all es ++ more))), records_all es more)

readable_all : (n : ℕ) (es : List Seq) (more : List ℕ) → Each Good es → Row n es → T (readable_from (length es) n (encode_all es ++ more))
unfolding readable_from
readable_all n [] more g w = tt
readable_all n (e ∷ es) more g w =
    let u = encode_all es ++ more in
    rw (split e es more)
    ((both (eqb (record_fault (encode e ++ u)) 0) _).1 (
      equal_T (fault_encode e u g.0),
      (both (eqb (base_of (encode e ++ u)) n) _).1
          (equal_T (base_encode e u ∙ w.0), rw (behind e es more, target_encode e u) (readable_all (target e) es more g.1 w.1)),
    ))

-- the first r of them
module _ (r : ℕ) (es : List Seq) (more : List ℕ) (h : r ≤ length es) where
  abbrev others : List ℕ
  others = encode_all (drop r es) ++ more

  parted : encode_all es ++ more ≡ encode_all (take r es) ++ others
  parted =
      ap (λ l. encode_all l ++ more) (sym (take-append-drop r es)) ∙ ap (λ l. l ++ more) (encode_all_append (take r es) (drop r es))
      ∙ append_assoc (encode_all (take r es)) (encode_all (drop r es)) more

  sizes_first : sizes_in r (encode_all es ++ more) ≡ length (encode_all (take r es))
  sizes_first = ap₂ sizes_in (sym (length-take-le r es h)) parted ∙ sizes_all (take r es) others

  lengths_first : (n : ℕ) → length_in r n (encode_all es ++ more) ≡ length_after n (take r es)
  lengths_first n = ap₂ (λ k l. length_in k n l) (sym (length-take-le r es h)) parted ∙ lengths_all n (take r es) others

-- ---- a log

module _ (n : ℕ) (es : List Seq) where
  pub log_length : length (log_of n es) ≡ records_start + length (encode_all es)
  unfolding log_of
  log_length = omega arith

  -- with one edit more
  pub log_more : (e : Seq) → log_of n (es ++ (e ∷ [])) ≡ words (suc (length es) ∷ n ∷ []) ++ (encode_all es ++ encode e)
  unfolding log_of encode_all
  log_more e =
      let k : length (es ++ (e ∷ [])) ≡ suc (length es) = simp length-append (omega arith) in
      ap₂ (λ k l. words (k ∷ n ∷ []) ++ l) k (encode_all_append es (e ∷ []) ∙ ap (λ l. encode_all es ++ l) (append-nil (encode e)))

  pub log_more_length : (e : Seq) → length (log_of n (es ++ (e ∷ []))) ≡ length (log_of n es) + length (encode e)
  log_more_length e = ap length (log_more e) ∙ simp (length-append, log_length) (omega arith)

-- ---- a log at the front of a buffer

module _ (n : ℕ) (es : List Seq) (more : List ℕ) where
  pub count_log : count_of (log_of n es ++ more) ≡ length es
  unfolding log_of
  count_log = omega arith

  pub start_log : start_of (log_of n es ++ more) ≡ n
  unfolding log_of
  start_log = omega arith

  pub records_log : drop records_start (log_of n es ++ more) ≡ encode_all es ++ more
  unfolding log_of
  records_log = refl

  pub place_log : (r : ℕ) → r ≤ length es → place_of r (log_of n es ++ more) ≡ records_start + length (encode_all (take r es))
  unfolding place_of
  place_log r h = ap (λ l. records_start + sizes_in r l) records_log ∙ ap (λ k. records_start + k) (sizes_first r es more h)

  pub length_log : (r : ℕ) → r ≤ length es → length_at r (log_of n es ++ more) ≡ length_after n (take r es)
  unfolding length_at
  length_log r h = ap₂ (λ k l. length_in r k l) start_log records_log ∙ lengths_first r es more h n

  pub revisions_log : revisions (log_of n es ++ more) ≡ es
  unfolding revisions
  revisions_log = ap₂ edits_in count_log records_log ∙ edits_all es more

  pub size_log : size_of_log (log_of n es ++ more) ≡ length (log_of n es)
  unfolding size_of_log
  size_log =
      ap (λ k. place_of k (log_of n es ++ more)) count_log ∙ place_log (length es) (omega arith)
      ∙ ap (λ l. records_start + length (encode_all l)) (take-length es) ∙ sym (log_length n es)

  pub contents_log : contents (log_of n es ++ more) ≡ log_of n es
  unfolding contents
  contents_log = take_at (log_of n es) more _ (sym size_log)

  pub readable_log : Sound n es → T (readable (log_of n es ++ more))
  unfolding readable
  readable_log s =
      let l = log_of n es ++ more in
      (le_and 4 (length l) _).1 (
        omega (arith, length-append (log_of n es) more, log_length n es),
        (le_and (count_of l) 256 _).1 (
          omega (arith, count_log, s.counts),
          (le_and (start_of l) max_size _).1
              (omega (arith, start_log, s.starts), rw (count_log, start_log, records_log) (readable_all n es more s.good s.row)),
        ),
      )

-- ---- a log that can be read

drop_bytes : (l : List ℕ) (k : ℕ) → Bytes l → Bytes (drop k l)
drop_bytes l k b i = rw get_or-drop (b (k + i))

module _ (n len : ℕ) (l : List ℕ) (h : T (readable_from (suc n) len l)) where
  no_fault : record_fault l ≡ 0
  unfolding readable_from
  no_fault = ((eq_and (record_fault l) 0 _).0 h).0

  on_length : base_of l ≡ len
  unfolding readable_from
  on_length = ((eq_and (base_of l) len _).0 ((eq_and (record_fault l) 0 _).0 h).1).0

  further : T (readable_from n (target_of l) (drop (size_of l) l))
  unfolding readable_from
  further = ((eq_and (base_of l) len _).0 ((eq_and (record_fault l) 0 _).0 h).1).1

edits_good : (n len : ℕ) (l : List ℕ) → T (readable_from n len l) → Each Good (edits_in n l)
unfolding edits_in
edits_good zero len l h = tt
edits_good (suc n) len l h = (ops_good l (no_fault n len l h), edits_good n (target_of l) (drop (size_of l) l) (further n len l h))

edits_row : (n len : ℕ) (l : List ℕ) → T (readable_from n len l) → Row len (edits_in n l)
unfolding edits_in
edits_row zero len l h = tt
edits_row (suc n) len l h =
    let z = no_fault n len l h in
    (ops_base l z ∙ on_length n len l h, rw (ops_target l z) (edits_row n (target_of l) (drop (size_of l) l) (further n len l h)))

edits_encode : (n len : ℕ) (l : List ℕ) → Bytes l → T (readable_from n len l) → encode_all (edits_in n l) ≡ take (sizes_in n l) l
unfolding encode_all edits_in
edits_encode zero len l b h = refl
edits_encode (suc n) len l b h =
    let k = size_of l in
    ap₂ ◌++◌ (encode_ops l (no_fault n len l h) b) (edits_encode n (target_of l) (drop k l) (drop_bytes l k b) (further n len l h))
    ∙ sym (take-add k (sizes_in n (drop k l)) l)

module _ (l : List ℕ) (h : T (readable l)) where
  parts : (4 ≤ length l) × (count_of l ≤ max_revisions) × (start_of l ≤ max_size) × T (readable_from (count_of l) (start_of l) (drop records_start l))
  unfolding readable
  parts =
      let (a, h₁) = (le_and 4 (length l) _).0 h in
      let (b, h₂) = (le_and (count_of l) 256 _).0 h₁ in
      let (c, d) = (le_and (start_of l) max_size _).0 h₂ in
      (a, b, c, d)

  pub read_sound : Sound (start_of l) (revisions l)
  unfolding revisions
  read_sound =
      let d = drop records_start l in
      record {
        starts = parts.2;
        counts = omega (arith, edits_length (count_of l) d, parts.1);
        good = edits_good (count_of l) (start_of l) d parts.3;
        row = edits_row (count_of l) (start_of l) d parts.3;
      }

  -- what it says, written again, is its own bytes
  pub read_log : Bytes l → log_of (start_of l) (revisions l) ≡ contents l
  unfolding log_of revisions contents size_of_log place_of
  read_log b =
      let n = count_of l in
      let d = drop records_start l in
      let w : words (n ∷ start_of l ∷ []) ≡ take 4 l =
      words_at l b 0 (start_of l ∷ []) (omega (arith, parts.0))
      ∙ ap (λ x. take 2 l ++ x) (words_at l b 2 [] (omega (arith, parts.0)) ∙ append-nil (take 2 (drop 2 l))) ∙ joined l 0 2 2 2 4 refl refl in
      (λ i. words (edits_length n d i ∷ start_of l ∷ []) ++ encode_all (edits_in n d))
      ∙ ap₂ ◌++◌ w (edits_encode n (start_of l) d (drop_bytes l 4 b) parts.3) ∙ joined l 0 4 4 (sizes_in n d) _ refl refl
