-- The leading line that a text begins with (RFC 976).
use Rattle.std.specs.Prelude.{◌≡◌, ℕ, ◌<◌, ◌≤◌, List, ◌∷◌, length, take, drop}
use Rattle.uu_names.specs.ReturnPath.{raw_lines, content, IsLeadingLine}

-- the text begins with a leading line that says this and has so many bytes with its line end
pub record BeginsWithSender (marker text user site : List ℕ) (line_len : ℕ) : Type 0 where
  pub some : 0 < line_len
  pub within : line_len ≤ length text
  pub line : raw_lines text ≡ take line_len text ∷ raw_lines (drop line_len text)
  pub says : IsLeadingLine marker (content (take line_len text)) (record { user = user; site = site })
