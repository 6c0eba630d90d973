-- The places of frames in a log, and which of them were looked at.
use Rattle.std.proofs.Common.{◌≡◌, ◌≢◌, ◌⊎◌, inl, inr, ◌≤◌, ◌<◌, ◌+◌, ◌-◌, ◌*◌, ◌/◌, ◌%◌, sym, subst, ℕ, zero, suc, List, length, drop, take, length-drop, take_all, arith}
use Rattle.std.proofs.Math.Nat.{div-add-mod, mod-lt}
use Rattle.std.proofs.lemmas.Bool.{cases_order}
use Rattle.uu_files.specs.Room.{HasPageBeyond, IsPageBeyond, IsWayToFrame, frame_at}

-- a place so many frames and bytes behind the header
place_is : (at : ℕ) → 32 < at → at ≡ 32 + (at - 32) / 4120 * 4120 + (at - 32) % 4120
place_is at behind = omega (arith, div-add-mod (at - 32) 4120)

pub frame_is_here : (at : ℕ) → 32 < at → (at - 32) % 4120 ≡ 0 → IsWayToFrame at 0
frame_is_here at behind none = (
  ((at - 32) / 4120, omega (arith, place_is at behind, none)),
  λ frame before. omega (arith, before),
)

pub frame_comes : (at : ℕ) → 32 < at → (at - 32) % 4120 ≢ 0 → IsWayToFrame at (4120 - (at - 32) % 4120)
frame_comes at behind some =
    let here = place_is at behind in
    let within = mod-lt (at - 32) {m = 4120} (omega arith) in (
      (suc ((at - 32) / 4120), omega (arith, here, within)),
      λ frame before. omega (arith, here, within, some, before),
    )

-- no frame that begins within so many bytes is of a page beyond the last one
abbrev pub IsClear : ℕ → ℕ → List ℕ → ℕ → Type 0
IsClear last at bytes place = (way frame : ℕ) → at + way ≡ frame_at frame → way < place → ¬ IsPageBeyond last (drop way bytes)

-- the place of a frame
abbrev pub IsFrame : ℕ → ℕ → Type 0
IsFrame at place = (frame : ℕ) × (at + place ≡ frame_at frame)

pub clear_at_first : (last at : ℕ) (bytes : List ℕ) (way : ℕ) → IsWayToFrame at way → IsFrame at way × IsClear last at bytes way
clear_at_first last at bytes way is = (is.0, λ it frame here before beyond. absurd (omega (arith, is.1 frame (omega (arith, here)), here, before)))

-- the bytes from a place on, as a slice has them
whole : (bytes : List ℕ) (place : ℕ) → take (length bytes - place) (drop place bytes) ≡ drop place bytes
whole bytes place = take_all (length bytes - place) (drop place bytes) (omega (arith, length-drop place bytes))

-- a frame that was found
pub beyond_is_found : (last at : ℕ) (bytes : List ℕ) (place : ℕ) → IsFrame at place → IsPageBeyond last (take (length bytes - place) (drop place bytes)) → HasPageBeyond last at bytes
beyond_is_found last at bytes place (frame, here) beyond = (place, frame, here, subst (IsPageBeyond last) (whole bytes place) beyond)

-- all frames were looked at
pub all_clear : (last at : ℕ) (bytes : List ℕ) (place : ℕ) → IsClear last at bytes place → length bytes ≤ place → ¬ HasPageBeyond last at bytes
all_clear last at bytes place clear behind (way, frame, here, beyond) = clear way frame here (omega (arith, beyond.0, length-drop way bytes, behind)) beyond

-- one more frame was looked at
clear_at : (last at : ℕ) (bytes : List ℕ) (place frame : ℕ) → at + place ≡ frame_at frame → IsClear last at bytes place → ¬ IsPageBeyond last (drop place bytes)
    → (way other : ℕ) → at + way ≡ frame_at other → way < place + 4120 → (way ≡ place) ⊎ ((way < place) ⊎ (place < way)) → ¬ IsPageBeyond last (drop way bytes)
clear_at last at bytes place frame here clear not_here way other there before (inl same) beyond = not_here (subst (λ w. IsPageBeyond last (drop w bytes)) same beyond)
clear_at last at bytes place frame here clear not_here way other there before (inr (inl earlier)) beyond = clear way other there earlier beyond
clear_at last at bytes place frame here clear not_here way other there before (inr (inr later)) beyond = omega (arith, here, there, before, later)

pub clear_then : (last at : ℕ) (bytes : List ℕ) (place : ℕ) → IsFrame at place → IsClear last at bytes place → ¬ IsPageBeyond last (take (length bytes - place) (drop place bytes))
    → IsFrame at (place + 4120) × IsClear last at bytes (place + 4120)
clear_then last at bytes place (frame, here) clear other = (
  (suc frame, omega (arith, here)),
  λ way frame2 there before. clear_at last at bytes place frame here clear (λ beyond. other (subst (IsPageBeyond last) (sym (whole bytes place)) beyond)) way frame2 there before (cases_order way place),
)
