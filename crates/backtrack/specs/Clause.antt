-- The clause of the complements of all assumed literals, by the marks that these literals give.
use Rattle.std.specs.Prelude.{Bool, true, false, ℤ, pos, negsuc}
use Rattle.rules.specs.declared.Mark.{Mark}
use Rattle.rules.specs.declared.Mark.TheVariants.{Free, Zero, One}

-- the coefficient of the literal that a mark makes false
abbrev pub refuted : Mark → ℤ
refuted Free = pos 0
refuted Zero = pos 1
refuted One = negsuc 0

-- two marks that exclude each other
abbrev pub opposed : Mark → Mark → Bool
opposed Free m = false
opposed Zero Free = false
opposed Zero Zero = false
opposed Zero One = true
opposed One Free = false
opposed One Zero = true
opposed One One = false
