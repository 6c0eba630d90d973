use Rattle.std.proofs.Common.{◌≡◌, ◌∙◌, ◌-◌, ◌++◌, ℕ, List, length, take, drop, ap, append_assoc, sym, take-append-drop}
use Rattle.std.proofs.lemmas.List.{take_rest}
use Rattle.std.proofs.KnownBytes.{Appends-kept, Appends-trans}
use Rattle.uu_frame.proofs.writing.write_whole.Goals as goal
use Rattle.uu_frame.proofs.writing.write_whole.Goals.{in-Ok, in-Err+in-Interrupted}

-- more of the front was written
moved : (all front rest : List ℕ) (n : ℕ) → all ≡ front ++ rest → all ≡ (front ++ take n rest) ++ take (length rest - n) (drop n rest)
moved all front rest n is =
    is ∙ ap (λ l. front ++ l) (sym (take-append-drop n rest)) ∙ sym (append_assoc front (take n rest) (drop n rest))
    ∙ ap (λ l. (front ++ take n rest) ++ l) (sym (take_rest rest n))

pub loop-preserved : goal.loop-preserved
loop-preserved g c = let (front, is, wrote) = c.loop.invariant in
    elim c.match-write.branch [
      | in-Ok w ↦ (
        front ++ take w.in-Ok.count c.loop.rest.now,
        rw w.rest-is (moved _ front c.loop.rest.now w.in-Ok.count is),
        Appends-trans _ _ _ front (take w.in-Ok.count c.loop.rest.now) wrote w.in-Ok.ensures.bytes,
      )
      | in-Err+in-Interrupted w ↦ (front, rw w.rest-is is, Appends-kept _ _ _ front wrote w.in-Err.ensures.bytes)
    ]
