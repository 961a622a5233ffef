pub mod TextsKept
