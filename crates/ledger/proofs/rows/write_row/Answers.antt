use Rattle.std.proofs.Common.{◌≡◌, ℕ, ◌+◌, ◌-◌, ◌*◌, ◌<◌, ◌≤◌, List, ◌++◌, length, get_or, set, take, drop, pos, ap, ◌∙◌, arith, length-set, w32, to_z}
use Rattle.std.proofs.lemmas.List.{get_or-set_same, get_or-set_other, get_or_append_left, get_or-append-add, get_or-take, get_or-drop, length-take-le}
use Rattle.std.proofs.lemmas.Int.{ints}
use borrow.Rule.Slice.PartMut.{put_mid, post_of, same_len_mid}
use Rattle.ledger.proofs.rows.write_row.Goals as goal

past : {X : Type 0} (xs ys : List X) (i j : ℕ) (d : X) → i ≡ length xs + j → get_or (xs ++ ys) i d ≡ get_or ys j d
past xs ys i j d e = ap (λ n. get_or (xs ++ ys) n d) e ∙ get_or-append-add xs ys j d

-- what stands at each place after a part is written
module _ {X : Type 0} (a k : ℕ) (xs ys : List X) (d : X) (long : length ys ≡ k) (room : a + k ≤ length xs) where
  in_front : length (take a xs) ≡ a
  in_front = length-take-le a xs (omega arith)

  below : (w : ℕ) → w < a → get_or (put_mid a k xs ys) w d ≡ get_or xs w d
  below w l = get_or_append_left (take a xs) (ys ++ post_of a k xs) d w (omega (arith, in_front)) ∙ get_or-take a xs w d l

  inside : (i : ℕ) → i < k → get_or (put_mid a k xs ys) (a + i) d ≡ get_or ys i d
  inside i l = past (take a xs) (ys ++ post_of a k xs) (a + i) i d (omega (arith, in_front)) ∙ get_or_append_left ys (post_of a k xs) d i (omega arith)

  above : (w : ℕ) → a + k ≤ w → get_or (put_mid a k xs ys) w d ≡ get_or xs w d
  above w l =
      let far : a + (k + (w - a - k)) ≡ w = omega arith in
      past (take a xs) (ys ++ post_of a k xs) w (w - a) d (omega (arith, in_front))
      ∙ (past ys (post_of a k xs) (w - a) (w - a - k) d (omega arith)
      ∙ (get_or-drop k (drop a xs) (w - a - k) d ∙ (get_or-drop a xs (k + (w - a - k)) d ∙ ap (λ n. get_or xs n d) far)))

widened : (d : ℕ) → d ≤ 140000000 → to_z w32 d ≡ pos d
widened d h = omega (arith, ints)

pub returns : goal.returns
returns c =
    let W = c.args.words.now in
    let row = c.args.row.now in
    let start = 44 + 41 * c.args.k in
    let there = c.requires.there in
    let base = set W start (to_z w32 c.args.degree) in
    let ys = c.copy_from_slice.new.self in
    let wide : length base ≡ 2668 = simp length-set c.told-words in
    let is = c.copy_from_slice.ensures.after in
    let long : length ys ≡ start + 41 - (start + 1) = omega (arith, ap length is, length-take-le 40 row (omega arith)) in
    let room : start + 1 + (start + 41 - (start + 1)) ≤ length base = omega arith in
    let at_i : (i : ℕ) → start + (1 + i) ≡ start + 1 + i = λ i. omega arith in
    record {
      whole = same_len_mid (start + 1) (start + 41 - (start + 1)) base ys c.copy_from_slice.ensures.len ∙ wide;
      written = record {
        degree = below (start + 1) _ base ys (pos 0) long room start (omega arith) ∙ (get_or-set_same W start _ (pos 0) (omega arith) ∙ widened c.args.degree c.requires.small);
        coefficients = λ i l. ap (λ w. get_or (put_mid (start + 1) (start + 41 - (start + 1)) base ys) w (pos 0)) (at_i i)
            ∙ (inside (start + 1) _ base ys (pos 0) long room i (omega arith) ∙ (ap (λ xs. get_or xs i (pos 0)) is ∙ get_or-take 40 row i (pos 0) l));
        before = λ w l. below (start + 1) _ base ys (pos 0) long room w (omega arith) ∙ get_or-set_other W start w _ (pos 0) (λ e. omega arith);
        after = λ w l. above (start + 1) _ base ys (pos 0) long room w (omega arith) ∙ get_or-set_other W start w _ (pos 0) (λ e. omega arith);
      };
    }
