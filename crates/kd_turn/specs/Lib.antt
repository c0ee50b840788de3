-- In reading order. Believe `Sight` and `Told`, which the contracts cite. `Rule` and `Seated` are
-- what stays true of the words and the passes, and are proved.

-- what contracts see of a gate and of a pass
pub mod Sight
-- what each call tells, and what is known once a gate is closed
pub mod Told
-- what is true of each pass outside a call
pub mod Seated
-- the rule of the turns, word by word
pub mod Rule
