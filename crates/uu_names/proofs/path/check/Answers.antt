-- The scan's variables say what has been passed, and each return what follows from them.
use Rattle.std.proofs.Common.{◌≡◌, ◌≢◌, ℕ, not, ◌<◌, ◌⊎◌, ◌||◌, ◌&&◌, Bool, Option, true, false, get_or, Some, None, inl, inr, refl, sym, ◌∙◌, arith, ltb}
use Rattle.std.specs.Option.{is_some}
use Rattle.std.proofs.lemmas.Bool.Decides.{nat_tests}
use Rattle.std.proofs.lemmas.Bool.{both_ways}
use Rattle.uu_names.specs.Name.{is_site_byte, is_word_byte}
use Rattle.uu_names.specs.Path.{is_bang}
use Rattle.uu_names.proofs.PathScan.{scan_all, bad_within, bad_at_end, loop_bang, loop_byte, is_path, is_long}
use Rattle.uu_names.proofs.path.check.Goals as goal
use Rattle.uu_names.proofs.path.check.Goals.{then-part_len-eq0-via-then-part_len-eq0, then-part_len-eq0-via-else-part_len-eq0+then-not-part_is_site, then-is_none, else-is_none, then-byte-eq33+else-part_len-eq0+else-not-part_is_site+then-long_site, then-byte-eq33+else-part_len-eq0+else-not-part_is_site+else-long_site, else-byte-eq33+else-not-of_site, else-not-of_site-via-then-not-of_site+else-not-is_word_byte, else-not-of_site-via-else-not-of_site, then-part_is_site, else-part_is_site, then-long_site-2-via-then-long_site-2, then-long_site-2-via-else-long_site-2+then-bytes-gt-MAX_LEN}

none_at : (o : Option ℕ) (r : Bool) → is_some o ≡ not r → r ≡ true → o ≡ None
none_at None r e t = refl
none_at (Some k) r e t = cc

not_at : (a b : Bool) → b ≡ a → not b ≡ true → a ≡ false
not_at a true e t = cc
not_at a false e t = sym e

pub returns-then-part_len-eq0 : goal.returns-then-part_len-eq0
returns-then-part_len-eq0 c =
    let b = get_or c.args.bytes.now c.loop-at.at 0 in
    let bang : is_bang b ≡ true = grind (arith, nat_tests) in
    let why : (c.loop-at.part_len ≡ 0) ⊎ (c.loop-at.part_is_site ≡ false) =
    elim c.then-part_len-eq0.branch [
      | then-part_len-eq0-via-then-part_len-eq0 w ↦ inl w.if-part_len-eq0.true
      | then-part_len-eq0-via-else-part_len-eq0+then-not-part_is_site w ↦ inr w.if-not-part_is_site.true
    ] in
    bad_within c.args.bytes.now c.loop-at.at b _ _ _ _ c.loop-at.invariant.scanned (omega arith) refl (inl (bang, why))

pub returns-then-not-is_word_byte : goal.returns-then-not-is_word_byte
returns-then-not-is_word_byte c =
    let b = get_or c.args.bytes.now c.loop-at.at 0 in
    let bang : is_bang b ≡ false = grind (arith, nat_tests) in
    let site : is_site_byte b ≡ false = sym c.if-not-of_site.ensures in
    let why : (c.loop-at.first_bang ≡ None) ⊎ (is_word_byte b ≡ false) =
    elim c.if-is_none.branch [
      | then-is_none w ↦ inl (none_at c.loop-at.first_bang c.is_none.result c.is_none.ensures w.if-is_none.true)
      | else-is_none w ↦ inr (not_at (is_word_byte b) w.is_word_byte.result w.is_word_byte.ensures (sym w.value-is ∙ c.if-not-is_word_byte.true))
    ] in
    bad_within c.args.bytes.now c.loop-at.at b _ _ _ _ c.loop-at.invariant.scanned (omega arith) refl (inr (bang, site, why))

some_at : (o : Option ℕ) (r : Bool) → is_some o ≡ not r → r ≡ false → o ≢ None
some_at None r e t = λ _. both_ways r t (flip r e)
  where
    flip : (r : Bool) → false ≡ not r → r ≡ true
    flip true e = refl
    flip false e = cc
some_at (Some k) r e t = λ q. cc

yes_at : (a b : Bool) → b ≡ a → not b ≡ false → a ≡ true
yes_at true b e t = refl
yes_at false b e t = cc

pub loop-at-preserved : goal.loop-at-preserved
loop-at-preserved c =
    let b = get_or c.args.bytes.now c.loop-at.at 0 in
    elim c.if-byte-eq33.branch [
      | then-byte-eq33+else-part_len-eq0+else-not-part_is_site+then-long_site w ↦
          let some : 0 < c.loop-at.part_len = omega arith in
          let long : c.if-byte-eq33.long_site ≡ (c.loop-at.long_site || ltb 63 c.loop-at.part_len) = w.long_site-is ∙ rw w.if-long_site.true in
          record {
            scanned = loop_bang c.args.bytes.now c.loop-at.at b _ _ _ _ _ _ _ _ c.loop-at.invariant.scanned (omega arith) refl w.if-byte-eq33.true some w.if-not-part_is_site.false
                (w.first_bang-is ∙ w.or-first_bang.ensures) w.part_len-is w.part_is_site-is long;
            short = omega arith;
          }
      | then-byte-eq33+else-part_len-eq0+else-not-part_is_site+else-long_site w ↦
          let some : 0 < c.loop-at.part_len = omega arith in
          let long : c.if-byte-eq33.long_site ≡ (c.loop-at.long_site || ltb 63 c.loop-at.part_len) = w.long_site-is ∙ rw w.if-long_site.false in
          record {
            scanned = loop_bang c.args.bytes.now c.loop-at.at b _ _ _ _ _ _ _ _ c.loop-at.invariant.scanned (omega arith) refl w.if-byte-eq33.true some w.if-not-part_is_site.false
                (w.first_bang-is ∙ w.or-first_bang.ensures) w.part_len-is w.part_is_site-is long;
            short = omega arith;
          }
      | else-byte-eq33+else-not-of_site w ↦
          let bang : is_bang b ≡ false = grind (arith, nat_tests, w.if-byte-eq33.false) in
          let ok : (w.is_site_byte-of_site.result ≡ true) ⊎ ((c.loop-at.first_bang ≢ None) × (is_word_byte b ≡ true)) =
          elim w.else-not-of_site.branch [
            | else-not-of_site-via-then-not-of_site+else-not-is_word_byte w' ↦
                elim w'.if-is_none.branch [
                  | then-is_none w'' ↦ absurd (both_ways w'.if-is_none.value w'.if-not-is_word_byte.false (w''.value-is ∙ w''.if-is_none.true))
                  | else-is_none w'' ↦ inr (some_at c.loop-at.first_bang w'.is_none.result w'.is_none.ensures w''.if-is_none.false, yes_at (is_word_byte b) w''.is_word_byte.result w''.is_word_byte.ensures (sym w''.value-is ∙ w'.if-not-is_word_byte.false))
                ]
            | else-not-of_site-via-else-not-of_site w' ↦ inl w'.if-not-of_site.false
          ] in
          let site : c.if-byte-eq33.part_is_site ≡ (c.loop-at.part_is_site && w.is_site_byte-of_site.result) =
          elim w.if-part_is_site.branch [
            | then-part_is_site w' ↦ w.part_is_site-is ∙ w'.part_is_site-is ∙ rw w'.if-part_is_site.true
            | else-part_is_site w' ↦ w.part_is_site-is ∙ w'.part_is_site-is ∙ rw w'.if-part_is_site.false
          ] in
          record {
            scanned = loop_byte c.args.bytes.now c.loop-at.at b _ _ _ _ _ _ _ _ w.is_site_byte-of_site.result c.loop-at.invariant.scanned (omega arith) refl bang w.is_site_byte-of_site.ensures ok
                w.first_bang-is w.part_len-is site w.long_site-is;
            short = omega arith;
          }
    ]

pub returns-then-long_site-2 : goal.returns-then-long_site-2
returns-then-long_site-2 c =
    let z = scan_all c.args.bytes.now c.loop-at.at _ _ _ _ c.loop-at.invariant.scanned c.loop-at-test.false in
    is_long c.args.bytes.now c.in-Some.hop_len _ _ _ _ z c.in-Some.is c.if-part_len-gt0.true
    (elim c.then-long_site-2.branch [
      | then-long_site-2-via-then-long_site-2 w ↦ inl w.if-long_site-2.true
      | then-long_site-2-via-else-long_site-2+then-bytes-gt-MAX_LEN w ↦ inr w.if-bytes-gt-MAX_LEN.true
    ])

pub returns-else-bytes-gt-MAX_LEN : goal.returns-else-bytes-gt-MAX_LEN
returns-else-bytes-gt-MAX_LEN c =
    let z = scan_all c.args.bytes.now c.loop-at.at _ _ _ _ c.loop-at.invariant.scanned c.loop-at-test.false in
    is_path c.args.bytes.now c.in-Some.hop_len _ _ _ _ z c.in-Some.is c.if-part_len-gt0.true c.if-long_site-2.false c.if-bytes-gt-MAX_LEN.false

pub returns-in_default : goal.returns-in_default
returns-in_default c =
    let z = scan_all c.args.bytes.now c.loop-at.at _ _ _ _ c.loop-at.invariant.scanned c.loop-at-test.false in
    let none : c.loop-at.part_len ≡ 0 = omega arith in
    bad_at_end c.args.bytes.now _ _ _ _ z (inr none)

pub returns-in_default-2 : goal.returns-in_default-2
returns-in_default-2 c =
    let z = scan_all c.args.bytes.now c.loop-at.at _ _ _ _ c.loop-at.invariant.scanned c.loop-at-test.false in
    bad_at_end c.args.bytes.now _ _ _ _ z (inl c.in_default.is)
