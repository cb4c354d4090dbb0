pub mod Pages
