-- A log that is too short for a frame: files with it hold what they hold without a log.
use Rattle.std.proofs.Common.{◌≡◌, ◌⊎◌, ◌<◌, ◌≤◌, ℕ, List, [], ◌∷◌, length, take, Some, false, inl, inr, refl, sym, subst, ◌∙◌, arith}
use Rattle.sqlite.specs.Tree.{Trees}
use Rattle.sqlite.specs.Files.{HoldsDatabase, IsNothing}
use Rattle.sqlite_pool.specs.Stored.{Adopts, stored_size, sealed, is_among}
use Rattle.sqlite_pool.specs.Opening.{IsBlankFile}
use Rattle.sqlite_wal.specs.Recovery.{Image, Pages, Recovers, Replays, IsIgnored, IsHalfMade, AreFramesOf, pages_after}
use Rattle.uu_core.specs.State.{State}
use Rattle.uu_store.specs.Openings.{ImageKeeps}

abbrev without : List ℕ → Image
without db = record { log = []; db = db }

-- of no log no frame is taken
no_frames : (size k : ℕ) → Replays size [] k → k ≡ 0
no_frames size k (inl ignored) = ignored.1
no_frames size k (inr committed) = absurd (let long = committed.0.long in omega (arith, long))

no_numbers : (size : ℕ) (numbers : List ℕ) → AreFramesOf size [] numbers → numbers ≡ []
no_numbers size [] frames = refl
no_numbers size (n ∷ numbers) frames = let no = no_frames size (length (n ∷ numbers)) frames.0 in absurd (omega (arith, no))

module _ (log db : List ℕ) (short : length log < 56) where
  abbrev beside : Image
  beside = record { log = log; db = db }

  ignored : IsIgnored log
  ignored = inl short

  recovers : (size : ℕ) (pages : Pages) → Recovers size (without db) pages → Recovers size beside pages
  unfolding pages_after
  recovers size pages it = record {
    frames = 0;
    replays = inl (ignored, refl);
    present = it.present;
    gives = subst (λ k. pages_after size [] db k ≡ pages) (no_frames size it.frames it.replays) it.gives;
  }

  adopts : (size : ℕ) (pages : Pages) → Adopts size (without db) pages → Adopts size beside pages
  adopts size pages it = record {
    stored = it.stored;
    found = recovers (stored_size size) it.stored it.found;
    whole = it.whole;
    numbers = [];
    frames = (inl (ignored, refl), λ i no. absurd (omega (arith, no)));
    sealed = subst (λ numbers. (n : ℕ) (bytes : List ℕ) → it.stored n ≡ Some bytes → is_among numbers n ≡ false → bytes ≡ sealed (take size bytes)) (no_numbers (stored_size size) it.numbers it.frames) it.sealed;
    shows = it.shows;
  }

  holds : (trees : Trees) → HoldsDatabase (without db) trees → HoldsDatabase beside trees
  holds trees held =
      let it = held.2 in
      (held.0, held.1, record { pages = it.pages; wanted = it.wanted; schema = it.schema; found = adopts held.0 it.pages it.found; ours = it.ours; reads = it.reads; sound = it.sound })

  blank : (size : ℕ) → IsBlankFile size (without db) → IsBlankFile size beside
  blank size (inl empty) = inl empty
  blank size (inr (replays, half)) = elim half.1 [ inl few ↦ inr (inl (ignored, refl), (half.0, inl few)) | inr begun ↦ absurd (let long = begun.0 in omega (arith, long)) ]

  nothing : IsNothing (without db) → IsNothing beside
  nothing (inl plain) = inl (blank _ plain)
  nothing (inr summed) = inr (blank _ summed)

  pub keeps : (s : State) → ImageKeeps (without db) s → ImageKeeps beside s
  keeps s (inl (trees, held, kept)) = inl (trees, holds trees held, kept)
  keeps s (inr (empty, is)) = inr (nothing empty, is)
